-- The words of a bitmap's tile: what they count, and what filling them does to the bitmap.
use Rattle.std.proofs.Common.{◌≡◌, ℕ, zero, suc, ◌+◌, ◌-◌, ◌*◌, ◌/◌, ◌%◌, ◌<◌, ◌≤◌, ◌==◌, ◌&&◌}
use Rattle.std.proofs.Common.{◌||◌, not, nat_le, nat_lt, min, Bool, true, false, cond}
use Rattle.std.proofs.Common.{if◌then◌else◌, List, get_or, length, refl, ap, sym, ◌∙◌, arith}
use Rattle.std.specs.List.{range_with_len, list_any}
use Rattle.std.proofs.lemmas.List.FromFn.{get_or-map-range_with_len, length-map-range_with_len}
use Rattle.std.proofs.lemmas.List.FromFn.{fill_by_all}
use Rattle.std.proofs.lemmas.Bool.{cases_lt}
use Rattle.std.proofs.lemmas.Bool.Decides.{nat_tests}
use Rattle.bits.specs.Cells.{Cells, has, with_values, is_within, IsBitmap}
use Rattle.bits.specs.Changes.{differs}
use Rattle.bits.specs.Words.{words_across}
use Rattle.bits.specs.Tiles.{tile_has, row_word}
use Rattle.bits.specs.TileWords.{tile_words, is_bit, filled_word, filled_words, bits_changed}
use Rattle.bits.specs.TileWords.{words_changed, words_differ, tile_changes, within_column}
use Rattle.bits.specs.TileWords.{within_row, laid}
use Rattle.bits.proofs.CellsLemmas.{has-cells_where, has-outside, IsBitmap-cells_where}
use Rattle.bits.proofs.ChangesLemmas.{sum_by-same, one}
use Rattle.bits.proofs.TileLemmas.{bit_at-row_word, bit_at-word_where, word_where-lt, row_word-lt}
use Rattle.bits.proofs.TileLemmas.{row_word_is}
use Rattle.bits.proofs.TileBitsLemmas.{filled_words-row, filled_words-length}
use Rattle.bits.proofs.StoredLemmas.{test_of_bit}

-- word i of a tile is row i of it
pub tile_words-row : (cells : Cells) (k i : ℕ) → i < 64
    → get_or (tile_words cells k) i 0 ≡ row_word cells k i
unfolding tile_words
tile_words-row cells k i h = get_or-map-range_with_len (row_word cells k) 0 64 i i 0 h (omega arith)

-- a tile has 64 words
pub tile_words-length : (cells : Cells) (k : ℕ) → length (tile_words cells k) ≡ 64
unfolding tile_words
tile_words-length cells k = length-map-range_with_len (row_word cells k) 0 64

-- words with these rows are those of the tile
pub tile_words_is : (cells : Cells) (k : ℕ) (words : List ℕ) → length words ≡ 64
    → ((i : ℕ) → i < 64 → get_or words i 0 ≡ row_word cells k i)
    → words ≡ tile_words cells k
unfolding tile_words
tile_words_is cells k words long rows = fill_by_all (row_word cells k) words 64 0 long rows

-- a bit of a row is the cell
pub is_bit-row_word : (cells : Cells) (k i j : ℕ) → j < 64
    → is_bit (row_word cells k i) j ≡ tile_has cells k i j
is_bit-row_word cells k i j h = grind (arith, bit_at-row_word, test_of_bit, nat_tests)

-- the changes of a tile are those of its words
pub tile_changes_words : (old new : Cells) (k : ℕ)
    → tile_changes old new k ≡ words_changed (tile_words old k) (tile_words new k)
unfolding tile_changes words_changed bits_changed
tile_changes_words old new k =
    sum_by-same _ (λ i. bits_changed (get_or (tile_words old k) i 0)
    (get_or (tile_words new k) i 0)) 0 64 (λ i low hi.
    sum_by-same (λ j. one (differs (tile_has old k i j) (tile_has new k i j)))
    (λ j. one (differs (is_bit (get_or (tile_words old k) i 0) j)
    (is_bit (get_or (tile_words new k) i 0) j))) 0 64 (λ j lo hj.
    (λ i'. one (differs
    (sym (ap (λ (w : ℕ). is_bit w j) (tile_words-row old k i (omega arith))
    ∙ is_bit-row_word old k i j (omega arith)) i')
    (sym (ap (λ (w : ℕ). is_bit w j) (tile_words-row new k i (omega arith))
    ∙ is_bit-row_word new k i j (omega arith)) i')))))

-- a cell of a tile is written alike by the rectangle and by the part of it in the tile
in_part : (a b x0 y0 x1 y1 i j : ℕ) (value part old : Bool) → i < 64 → j < 64
    → (x0 ≤ 64 * a + j → y0 ≤ 64 * b + i → value ≡ part)
    → (if is_within x0 y0 x1 y1 (64 * a + j) (64 * b + i) then value else old)
    ≡ (if nat_le (min (y0 - 64 * b) 64) i && nat_lt i (min (y1 - 64 * b) 64)
    then (if nat_le (min (x0 - 64 * a) 64) j && nat_lt j (min (x1 - 64 * a) 64) then part
    else old) else old)
in_part a b x0 y0 x1 y1 i j value part old hi hj same = grind (arith, nat_tests)

-- where the picture's cell lies
picture_cell : (value : ℕ → ℕ → Bool) (a b x0 y0 i j : ℕ) → i < 64 → j < 64 → x0 ≤ 64 * a + j
    → y0 ≤ 64 * b + i
    → value (64 * a + j - x0) (64 * b + i - y0)
    ≡ laid value (64 * a - x0) (64 * b - y0) (min (x0 - 64 * a) 64) (min (y0 - 64 * b) 64) j i
picture_cell value a b x0 y0 i j hi hj right below = grind (arith, nat_tests)

-- outside the map no rectangle is
not_in : (w h x0 y0 x1 y1 x y : ℕ) (value : Bool) → x1 ≤ w → y1 ≤ h → (x < w → h ≤ y)
    → (if is_within x0 y0 x1 y1 x y then value else false) ≡ false
not_in w h x0 y0 x1 y1 x y value hx hy out = grind (arith, nat_tests)

-- outside of a bitmap no cell is an obstacle
pub out_of : (cells : Cells) → IsBitmap cells → (x y : ℕ) → (x < cells.width → cells.height ≤ y)
    → has cells x y ≡ false
out_of cells is x y outside = grind (arith, has-outside, nat_tests)

-- a bitmap with a picture in it has the cells of the picture in its rectangle, and its own
-- elsewhere, also past the edge
pub has-with_values_all : (cells : Cells) (x0 y0 x1 y1 : ℕ) (value : ℕ → ℕ → Bool) (x y : ℕ)
    → IsBitmap cells → x1 ≤ cells.width → y1 ≤ cells.height
    → has (with_values cells x0 y0 x1 y1 value) x y
    ≡ (if is_within x0 y0 x1 y1 x y then value (x - x0) (y - y0) else has cells x y)
has-with_values_all cells x0 y0 x1 y1 value x y is hx hy =
    grind (arith, IsBitmap-cells_where, out_of, not_in, cases_lt, has-cells_where, nat_tests)

-- a row of the written bitmap, where the rectangle's part reaches it and where not
row_reached : (test : Bool) (a b : ℕ) (c : ℕ) → (test ≡ true → c ≡ a) → (test ≡ false → c ≡ b)
    → (if test then a else b) ≡ c
row_reached true a b c yes' no' = sym (yes' refl)
row_reached false a b c yes' no' = sym (no' refl)

-- to fill the part of a picture that lies in a tile is to lay the picture
pub filled_tile : (cells : Cells) (x0 y0 x1 y1 k : ℕ) (value : ℕ → ℕ → Bool) → IsBitmap cells
    → x1 ≤ cells.width → y1 ≤ cells.height
    → filled_words (tile_words cells k) (within_column cells k x0) (within_row cells k y0)
    (within_column cells k x1) (within_row cells k y1)
    (laid value (64 * (k % words_across cells.width) - x0)
    (64 * (k / words_across cells.width) - y0) (within_column cells k x0) (within_row cells k y0))
    ≡ tile_words (with_values cells x0 y0 x1 y1 value) k
unfolding filled_word
filled_tile cells x0 y0 x1 y1 k value is hx hy =
    let lx0 = within_column cells k x0 in let ly0 = within_row cells k y0 in
    let lx1 = within_column cells k x1 in let ly1 = within_row cells k y1 in
    let a = k % words_across cells.width in
    let b = k / words_across cells.width in
    let new = with_values cells x0 y0 x1 y1 value in
    let part : ℕ → ℕ → Bool = laid value (64 * a - x0) (64 * b - y0) lx0 ly0 in
    tile_words_is new k _ (filled_words-length (tile_words cells k) lx0 ly0 lx1 ly1 part) (λ i hi.
    let cell = λ (j : ℕ) (hj : j < 64).
    has-with_values_all cells x0 y0 x1 y1 value (64 * a + j) (64 * b + i) is hx hy
    ∙ in_part a b x0 y0 x1 y1 i j (value (64 * a + j - x0) (64 * b + i - y0)) (part j i)
    (tile_has cells k i j) hi hj (picture_cell value a b x0 y0 i j hi hj) in
    filled_words-row (tile_words cells k) lx0 ly0 lx1 ly1 part i hi
    ∙ (ap (λ (w : ℕ). if nat_le ly0 i && nat_lt i ly1 then filled_word w lx0 lx1 (λ j. part j i)
    else w) (tile_words-row cells k i hi)
    ∙ row_reached (nat_le ly0 i && nat_lt i ly1)
    (filled_word (row_word cells k i) lx0 lx1 (λ j. part j i)) (row_word cells k i)
    (row_word new k i)
    (λ reached. sym (row_word_is new k i (filled_word (row_word cells k i) lx0 lx1 (λ j. part j i))
    (word_where-lt _ 64) (λ j hj.
    bit_at-word_where (λ j. if nat_le lx0 j && nat_lt j lx1 then part j i
    else is_bit (row_word cells k i) j) 64 j hj
    ∙ (ap (λ (o : Bool). cond (if nat_le lx0 j && nat_lt j lx1 then part j i else o) 1 0)
    (is_bit-row_word cells k i j hj)
    ∙ ap (λ (t : Bool). cond t 1 0)
    (sym (cell j hj
    ∙ ap (λ (r : Bool). if r then (if nat_le lx0 j && nat_lt j lx1 then part j i
    else tile_has cells k i j) else tile_has cells k i j) reached))))))
    (λ missed. sym (row_word_is new k i (row_word cells k i) (row_word-lt cells k i) (λ j hj.
    bit_at-row_word cells k i j hj
    ∙ ap (λ (t : Bool). cond t 1 0)
    (sym (cell j hj
    ∙ ap (λ (r : Bool). if r then (if nat_le lx0 j && nat_lt j lx1 then part j i
    else tile_has cells k i j) else tile_has cells k i j) missed)))))))

-- a tile's rows differ where its words do
pub tile_rows_differ : (old new : Cells) (k : ℕ)
    → words_differ (tile_words old k) (tile_words new k)
    ≡ list_any (λ i. not (row_word old k i == row_word new k i)) (range_with_len 0 64)
unfolding words_differ
tile_rows_differ old new k =
    any_same (λ i. not (get_or (tile_words old k) i 0 == get_or (tile_words new k) i 0))
    (λ i. not (row_word old k i == row_word new k i)) 0 64
    (λ i low high.
    (λ i'. not (tile_words-row old k i (omega arith) i'
    == tile_words-row new k i (omega arith) i')))
  where
    any_same : (p q : ℕ → Bool) (a n : ℕ) → ((i : ℕ) → a ≤ i → i < a + n → p i ≡ q i)
        → list_any p (range_with_len a n) ≡ list_any q (range_with_len a n)
    any_same p q a zero same = refl
    any_same p q a (suc n) same =
        (λ i'. same a (omega arith) (omega arith) i'
        || any_same p q (a + 1) n (λ i low high. same i (omega arith) (omega arith)) i')
