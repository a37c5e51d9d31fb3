-- A bitmap becomes a copy of a version, band by band.
use Rattle.std.proofs.Common.{◌≡◌, ◌≢◌, ℕ, ◌+◌, ◌-◌, ◌*◌, ◌/◌, ◌%◌, ◌^◌, ◌<◌, ◌≤◌, ◌==◌, List}
use Rattle.std.proofs.Common.{false, if◌then◌else◌, map, get_or, ap, sym, ◌∙◌, ◌⊎◌, inl, inr, arith}
use Rattle.std.specs.Int.{bit_at}
use Rattle.std.specs.List.{range_with_len}
use Rattle.std.proofs.lemmas.Bool.{cases_Bool, cases_eq, cases_lt}
use Rattle.std.proofs.lemmas.Bool.Decides.{nat_tests}
use Rattle.std.proofs.lemmas.Nat.{div-mul-add, mod-mul-add, mod_below}
use Rattle.std.proofs.lemmas.Nat.Bits.{bit_at-lt, bit_at-zero}
use Rattle.bits.specs.Bands.{IsBanded, IsTiled}
use Rattle.bits.specs.Cells.{Cells, has, cells_where, IsBitmap, IsInside}
use Rattle.bits.specs.Tiles.{tile_of, tiles_down, word_where}
use Rattle.bits.specs.TileWords.{is_bit, tile_words}
use Rattle.bits.specs.Words.{words_across}
use Rattle.bits.specs.Writes.{with_tile}
use Rattle.bits.proofs.BandLemmas.{IsTiled-all}
use Rattle.bits.proofs.CellsLemmas.{cells_where-has, cells_where-same, has-cells_where, has-outside}
use Rattle.bits.proofs.TileDrawLemmas.{tile_words-row, is_bit-row_word}
use Rattle.bits.proofs.TileLemmas.{tile_has-tile_of}
use Rattle.clearance.specs.Rows.{words_of_row}
use Rattle.copies.specs.Copies.{HasReadBands}

-- a bit is 0 or 1
bit_cases : (n i : ℕ) → (bit_at n i ≡ 0) ⊎ (bit_at n i ≡ 1)
bit_cases n i =
    let few = bit_at-lt n i in
    elim (cases_eq (bit_at n i) 0) [
      | inl clear ↦ inl clear
      | inr set ↦ inr (omega arith)
    ]

-- two places in rows of one length are the same row and the same column
place_parts : (across row column band index : ℕ) → column < across → index < across
    → row * across + column ≡ band * across + index → (row ≡ band) × (column ≡ index)
place_parts across row column band index within inside same = (
  sym (div-mul-add row across column within)
      ∙ (ap (λ (p : ℕ). p / across) same ∙ div-mul-add band across index inside),
  sym (mod-mul-add row across column within)
      ∙ (ap (λ (p : ℕ). p % across) same ∙ mod-mul-add band across index inside),
)

-- a cell is found again in the words of its tile
cell_of_tile : (cells : Cells) (x y p : ℕ) (words : List ℕ) → x < cells.width → tile_of cells x y ≡ p
    → words ≡ tile_words cells p
    → is_bit (get_or words (y % 64) 0) (x % 64) ≡ has cells x y
cell_of_tile cells x y p words column here are =
    ap (λ (ws : List ℕ). is_bit (get_or ws (y % 64) 0) (x % 64)) are
    ∙ (ap (λ (q : ℕ). is_bit (get_or (tile_words cells q) (y % 64) 0) (x % 64)) (sym here)
    ∙ (ap (λ (w : ℕ). is_bit w (x % 64))
    (tile_words-row cells (tile_of cells x y) (y % 64) (mod_below y 64 (omega arith)))
    ∙ (is_bit-row_word cells (tile_of cells x y) (y % 64) (x % 64) (mod_below x 64 (omega arith))
    ∙ tile_has-tile_of cells x y column)))

-- a cell after a tile was written, by that tile's words or as it was
cell_written : (now new : Cells) (p x y : ℕ) (words : List ℕ) → new ≡ with_tile now p words
    → x < now.width → y < now.height
    → has new x y
    ≡ (if tile_of now x y == p then is_bit (get_or words (y % 64) 0) (x % 64) else has now x y)
cell_written now new p x y words is column row =
    ap (λ (c : Cells). has c x y) is
    ∙ has-cells_where now.width now.height
    (λ a b. if tile_of now a b == p then is_bit (get_or words (b % 64) 0) (a % 64) else has now a b)
    x y column row

-- the tiles of a band before this one are a version's, and the other bands are what they were
pub record IsBandRead (old now cells : Cells) (band index : ℕ) : Type 0 where
  pub width_is : now.width ≡ old.width
  pub height_is : now.height ≡ old.height
  pub read : (x y : ℕ) → IsInside old x y → y / 64 ≡ band → x / 64 < index
      → has now x y ≡ has cells x y
  pub kept : (x y : ℕ) → IsInside old x y → y / 64 ≢ band → has now x y ≡ has old x y

-- a cell of the tile that was written is the version's
cell_here : (now new cells : Cells) (p x y : ℕ) (words : List ℕ) → new ≡ with_tile now p words
    → x < now.width → y < now.height → cells.width ≡ now.width → words ≡ tile_words cells p
    → tile_of now x y ≡ p → has new x y ≡ has cells x y
cell_here now new cells p x y words is column row width are here =
    let found = cell_of_tile cells x y p words (omega arith)
    (ap (λ (w : ℕ). y / 64 * words_across w + x / 64) width ∙ here) are in
    let written = cell_written now new p x y words is column row in
    grind (arith, nat_tests)

-- a cell of another tile is what it was
cell_apart : (now new : Cells) (p x y : ℕ) (words : List ℕ) → new ≡ with_tile now p words
    → x < now.width → y < now.height → tile_of now x y ≢ p → has new x y ≡ has now x y
cell_apart now new p x y words is column row apart =
    let written = cell_written now new p x y words is column row in
    grind (arith, nat_tests)

-- once one tile more of a band is written, the tiles before the next are the version's
pub tile_more : (old now new cells : Cells) (band index p across : ℕ) (words : List ℕ)
    → IsBandRead old now cells band index → cells.width ≡ old.width
    → across ≡ words_across old.width → index < across → p ≡ band * across + index
    → words ≡ tile_words cells p → new ≡ with_tile now p words
    → IsBandRead old new cells band (index + 1)
tile_more old now new cells band index p across words so width across_is index_is place are is =
    record {
      width_is = ap (λ (c : Cells). c.width) is ∙ so.width_is;
      height_is = ap (λ (c : Cells). c.height) is ∙ so.height_is;
      read = λ x y inside here before.
          elim (cases_lt (x / 64) index) [
            | inl earlier ↦ cell_apart now new p x y words is (wide x y inside) (high x y inside)
                (λ same. absurd (let both = parts x y inside same in omega arith))
                ∙ so.read x y inside here earlier
            | inr later ↦ cell_here now new cells p x y words is (wide x y inside) (high x y inside)
                (width ∙ sym so.width_is) are
                (let column : x / 64 ≡ index = omega arith in
                ap (λ (w : ℕ). y / 64 * words_across w + x / 64) so.width_is
                ∙ ((λ i. here i * across_of i + column i) ∙ sym place))
          ];
      kept = λ x y inside other.
          cell_apart now new p x y words is (wide x y inside) (high x y inside)
          (λ same. other (parts x y inside same).0) ∙ so.kept x y inside other;
    }
  where
    across_of : words_across old.width ≡ across
    across_of = sym across_is

    wide : (x y : ℕ) → IsInside old x y → x < now.width
    wide x y inside = let column = inside.column in let same = so.width_is in omega arith

    high : (x y : ℕ) → IsInside old x y → y < now.height
    high x y inside = let row = inside.row in let same = so.height_is in omega arith

    parts : (x y : ℕ) → IsInside old x y → tile_of now x y ≡ p
        → (y / 64 ≡ band) × (x / 64 ≡ index)
    parts x y inside same =
        let column = inside.column in
        place_parts across (y / 64) (x / 64) band index (omega arith) index_is
        (ap (λ (w : ℕ). y / 64 * w + x / 64) (across_is ∙ ap words_across (sym so.width_is))
        ∙ (same ∙ place))

-- once a band is read, its bit may be 0
pub band_copied : (old new cells : Cells) (band unread left : ℕ) → HasReadBands old cells unread
    → cells.width ≡ old.width → cells.height ≡ old.height → cells.height ≤ 4096
    → ((x y : ℕ) → IsInside old x y → y / 64 ≡ band → has new x y ≡ has cells x y)
    → ((x y : ℕ) → IsInside old x y → y / 64 ≢ band → has new x y ≡ has old x y)
    → ((i : ℕ) → i < 64 → i ≢ band → bit_at left i ≡ bit_at unread i)
    → HasReadBands new cells left
band_copied old new cells band unread left before width height few read kept bits =
    λ x y inside clear.
    let column = inside.column in
    let row = inside.row in
    let within : IsInside old x y = record { column = omega arith; row = omega arith } in
    elim (cases_eq (y / 64) band) [
      | inl here ↦ read x y within here
      | inr other ↦ kept x y within other
          ∙ before x y inside (sym (bits (y / 64) (omega arith) other) ∙ clear)
    ]

-- a row of a band that was read is the version's, cell by cell
row_cells : (bitmap cells : Cells) (unread y a : ℕ) → IsBitmap bitmap → IsBitmap cells
    → bitmap.width ≡ cells.width → HasReadBands bitmap cells unread → bit_at unread (y / 64) ≡ 0
    → y < cells.height → has bitmap a y ≡ has cells a y
row_cells bitmap cells unread y a own other width read clear row =
    elim (cases_lt a cells.width) [
      | inl within ↦ read a y record { column = within; row = row } clear
      | inr past ↦ outside bitmap own (omega arith) ∙ sym (outside cells other past)
    ]
  where
    outside : (c : Cells) → IsBitmap c → c.width ≤ a → has c a y ≡ false
    outside c is past = elim (cases_Bool (has c a y)) [
      | inl one ↦ absurd (let column = (has-outside c is a y one).column in omega arith)
      | inr none ↦ none
    ]

-- a row of a band that was read has the version's words
pub row_copied : (bitmap cells : Cells) (unread y : ℕ) → IsBitmap bitmap → IsBitmap cells
    → bitmap.width ≡ cells.width → HasReadBands bitmap cells unread → bit_at unread (y / 64) ≡ 0
    → y < cells.height → words_of_row bitmap y ≡ words_of_row cells y
unfolding words_of_row
row_copied bitmap cells unread y own other width read clear row = λ i.
    map (λ k. word_where (λ j. row_cells bitmap cells unread y (64 * k + j) own other width read
    clear row i) 64) (range_with_len 0 (words_across (width i)))

-- once each band is read the bitmap is the version
pub all_copied : (bitmap cells : Cells) (unread : ℕ) → IsBitmap bitmap → IsBitmap cells
    → bitmap.width ≡ cells.width → bitmap.height ≡ cells.height → HasReadBands bitmap cells unread
    → ((y : ℕ) → y < cells.height → bit_at unread (y / 64) ≡ 0) → bitmap ≡ cells
all_copied bitmap cells unread own other width height read clear =
    cells_where-has bitmap own
    ∙ (cells_where-same bitmap.width bitmap.height (has bitmap) (has cells)
    (λ x y column row. read x y record { column = omega arith; row = omega arith }
    (clear y (omega arith)))
    ∙ ((λ i. cells_where (width i) (height i) (has cells)) ∙ sym (cells_where-has cells other)))

-- a band with an obstacle is one of the bitmap's that may have one, or one that wasn't read
pub bands_copied : (bitmap cells : Cells) (unread bands : ℕ) → IsBitmap cells
    → HasReadBands bitmap cells unread → IsBanded bitmap bands
    → ((k : ℕ) → bit_at unread k ≡ 1 → bit_at bands k ≡ 1) → IsBanded cells bands
bands_copied bitmap cells unread bands is read banded rest = λ x y one.
    elim (bit_cases unread (y / 64)) [
      | inl clear ↦ banded x y (read x y (has-outside cells is x y one) clear ∙ one)
      | inr set ↦ rest (y / 64) set
    ]

-- a tile with an obstacle is one of the bitmap's that may have one, or its band wasn't read
pub tiles_copied : (bitmap cells : Cells) (unread band tiles : ℕ) → IsBitmap cells
    → HasReadBands bitmap cells unread → (bit_at unread band ≡ 0 → IsTiled bitmap band tiles)
    → (bit_at unread band ≡ 1 → tiles ≡ 2 ^ 64 - 1) → IsTiled cells band tiles
tiles_copied bitmap cells unread band tiles is read tiled rest = λ x y one here.
    elim (bit_cases unread band) [
      | inl clear ↦ tiled clear x y (read x y (has-outside cells is x y one)
          (ap (bit_at unread) here ∙ clear) ∙ one) here
      | inr set ↦ ap (λ (word : ℕ). bit_at word (x / 64)) (rest set)
          ∙ IsTiled-all cells band is x y one here
    ]

-- where each band has a bit nothing need have been read
pub nothing_read : (bitmap cells : Cells) (unread : ℕ) → bitmap.height ≡ cells.height
    → ((k : ℕ) → k < tiles_down bitmap.height → bit_at unread k ≡ 1)
    → HasReadBands bitmap cells unread
nothing_read bitmap cells unread height all = λ x y inside clear.
    let row = inside.row in
    let set = all (y / 64) (omega arith) in
    absurd (omega arith)

-- where the number is 0 each bit is
pub none_unread : (unread : ℕ) → unread ≡ 0 → (k : ℕ) → bit_at unread k ≡ 0
none_unread unread none k = ap (λ (word : ℕ). bit_at word k) none ∙ bit_at-zero k
