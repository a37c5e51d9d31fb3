-- The marks of a map's blank tiles, row by row.
use Rattle.libclearmap.proofs.Names.{◌≡◌, ℕ, ◌+◌, ◌*◌, ◌/◌, ◌%◌, ◌<◌, ◌≤◌, ◌-◌, List, length}
use Rattle.libclearmap.proofs.Names.{get_or, set, refl, sym, ◌∙◌, arith, w64, ◌^◌, bit_at, bit_not}
use Rattle.libclearmap.proofs.Names.{cases_eq, cases_lt, bit_at-zero, bit_at_ones}
use Rattle.libclearmap.proofs.Names.{same_from_bits_below, nat_tests, get_or-set_same}
use Rattle.libclearmap.proofs.Names.{get_or-set_other, Cells, IsBitmap, IsObstacle, words_across}
use Rattle.libclearmap.proofs.Names.{has-outside, IsBlankRow, words_of_row, word_in_row}
use Rattle.libclearmap.proofs.Names.{ClearmapBits, IsBlankTile, bands_down, rows_end}
use Rattle.libclearmap.proofs.Names.{bit_at-word_where, word_where-lt}
use Rattle.libclearmap.specs.Statuses.{marks_status}
use Rattle.libclearmap.proofs.CopyLemmas.{obstacle_bit}

-- a word of a blank tile is 0
pub blank_word : (cells : Cells) (y k : ℕ) → k < words_across cells.width
    → IsBlankTile cells (y / 64) k → get_or (words_of_row cells y) k 0 ≡ 0
blank_word cells y k within blank =
    rw (word_in_row cells y k within) (same_from_bits_below 64 _ 0 (word_where-lt _ 64) (omega arith)
    (λ i bit.
    let tile : (64 * k + i) / 64 ≡ k = omega arith in
    grind (arith, nat_tests, bit_at-zero, bit_at-word_where, blank (64 * k + i) y refl tile)))

-- after one more row, no tile with an obstacle has a mark
pub marked_more : (cells : Cells) (marks : List ℕ) (y value : ℕ) → IsBitmap cells
    → y / 64 < length marks
    → ((x b : ℕ) → b < y → IsObstacle cells x b → bit_at (get_or marks (b / 64) 0) (x / 64) ≡ 0)
    → ((k : ℕ) → k < 64 → bit_at (get_or marks (y / 64) 0) k ≡ 0 → bit_at value k ≡ 0)
    → ((k i : ℕ) → k < words_across cells.width
    → bit_at (get_or (words_of_row cells y) k 0) i ≡ 1 → bit_at value k ≡ 0)
    → (x b : ℕ) → b < y + 1 → IsObstacle cells x b
    → bit_at (get_or (set marks (y / 64) value) (b / 64) 0) (x / 64) ≡ 0
marked_more cells marks y value bitmap room before fewer some x b low obstacle =
    let inside = has-outside cells bitmap x b obstacle in
    let bit = some (x / 64) (x % 64) in
    let same = cases_eq (b / 64) (y / 64) in
    grind (arith, cases_lt b y, get_or-set_same, get_or-set_other, obstacle_bit cells x y)

-- after one more row, each blank tile has its mark still
pub blank_more : (cells : Cells) (marks : List ℕ) (y value : ℕ) → y / 64 < length marks
    → ((band tile : ℕ) → band < 64 → tile < 64 → IsBlankTile cells band tile
    → bit_at (get_or marks band 0) tile ≡ 1)
    → ((k : ℕ) → k < 64 → (k < words_across cells.width → get_or (words_of_row cells y) k 0 ≡ 0)
    → bit_at value k ≡ bit_at (get_or marks (y / 64) 0) k)
    → (band tile : ℕ) → band < 64 → tile < 64 → IsBlankTile cells band tile
    → bit_at (get_or (set marks (y / 64) value) band 0) tile ≡ 1
blank_more cells marks y value room before none band tile few within blank =
    let same = cases_eq band (y / 64) in
    grind (arith, get_or-set_same, get_or-set_other, none tile, blank_word cells y tile)

-- a tile of blank rows is blank
pub blank_rows_tile : (cells : Cells) (band tile : ℕ) → IsBitmap cells
    → ((y : ℕ) → y / 64 ≡ band → IsBlankRow cells y) → IsBlankTile cells band tile
blank_rows_tile cells band tile bitmap rows x y row column obstacle =
    let inside = (has-outside cells bitmap x y obstacle).column in
    absurd (grind (arith, obstacle_bit cells x y inside obstacle, rows y row (x / 64), bit_at-zero))

-- marks that may begin at an index lie between the rows and the end of the memory
pub marks_placed : (tiles count : ℕ) (map : ClearmapBits) → marks_status tiles map count ≡ 0
    → (rows_end map ≤ tiles) × (tiles + bands_down map ≤ count)
marks_placed tiles count map right = grind (arith, nat_tests)

-- each bit of the largest word is 1
pub bit_of_ones : (i : ℕ) → i < 64 → bit_at (2 ^ 64 - 1) i ≡ 1
bit_of_ones i few = bit_at_ones 64 i few

-- a word of ones has no other bit
pub not_of_ones : (word : ℕ) → word < 2 ^ 64
    → ((i : ℕ) → i < 64 → bit_at word i ≡ 1) → bit_not w64 word ≡ 0
not_of_ones word fits ones =
    rw (same_from_bits_below 64 word (2 ^ 64 - 1) fits (omega arith) (λ i few. ones i few
    ∙ sym (bit_of_ones i few))) refl
