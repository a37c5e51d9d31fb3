-- A bitmap once some of its rows are copied.
use Rattle.libclearmap.proofs.Names.{◌≡◌, ℕ, ◌&&◌, ◌+◌, ◌*◌, ◌/◌, ◌%◌, ◌<◌, ◌≤◌, nat_lt}
use Rattle.libclearmap.proofs.Names.{if◌then◌else◌, true, false, List, get_or, sym, ◌∙◌, arith}
use Rattle.libclearmap.proofs.Names.{bit_at, mul-le-mul_right, nat_tests, Cells, has, cells_where}
use Rattle.libclearmap.proofs.Names.{IsBitmap, IsObstacle, cells_stored, is_stored, words_across}
use Rattle.libclearmap.proofs.Names.{is_bit, cells_where-same, cells_where-has, has-cells_where}
use Rattle.libclearmap.proofs.Names.{has-cells_where_right, words_of_row, IsRowOf-words, is_counted}
use Rattle.bits.specs.Writes.{with_row}

-- the map with its rows from one on blank
abbrev pub rows_front : Cells → ℕ → Cells
rows_front cells y = cells_where cells.width cells.height
    (λ a b. if nat_lt b y then has cells a b else false)

-- after the last row, it is the map
pub rows_front-all : (cells : Cells) → IsBitmap cells → rows_front cells cells.height ≡ cells
rows_front-all cells bitmap = cells_where-same _ _ _ (has cells)
    (λ a b ha hb. grind (arith, nat_tests)) ∙ sym (cells_where-has cells bitmap)

-- the bit of a cell in the words of its row tells what the cell is
row_bit : (cells : Cells) (x y : ℕ) → x < cells.width
    → is_bit (get_or (words_of_row cells y) (x / 64) 0) (x % 64) ≡ has cells x y
row_bit cells x y inside =
    let whole : 64 * (x / 64) + x % 64 ≡ x = omega arith in
    grind (arith, nat_tests, (IsRowOf-words cells y).bits (x / 64) (x % 64))

-- a further row is copied
pub rows_front-more : (cells : Cells) (y : ℕ) (words : List ℕ)
    → ((k : ℕ) → k < words_across cells.width → get_or words k 0
    ≡ get_or (words_of_row cells y) k 0)
    → with_row (rows_front cells y) y words ≡ rows_front cells (y + 1)
rows_front-more cells y words read = cells_where-same _ _ _ _ (λ a b ha hb.
    grind (arith, nat_tests, read (a / 64), row_bit cells a y ha, has-cells_where))

-- a row is written by those words alone that it needs
pub with_row-same : (cells : Cells) (y : ℕ) (words others : List ℕ)
    → ((k : ℕ) → k < words_across cells.width → get_or words k 0 ≡ get_or others k 0)
    → with_row cells y words ≡ with_row cells y others
with_row-same cells y words others same = cells_where-same _ _ _ _
    (λ a b ha hb. grind (arith, same (a / 64)))

-- the bit of a cell tells what the cell is, where its word and its place are given
pub row_bit_at : (cells : Cells) (x y index i : ℕ) → x < cells.width → i < 64 → x ≡ 64 * index + i
    → is_bit (get_or (words_of_row cells y) index 0) i ≡ has cells x y
row_bit_at cells x y index i inside few is =
    grind (arith, nat_tests, (IsRowOf-words cells y).bits index i)

-- the words of all rows, one row after another, are the map
pub cells_stored-packed : (cells : Cells) (words : List ℕ) → IsBitmap cells
    → ((y k : ℕ) → y < cells.height → k < words_across cells.width
    → get_or words (y * words_across cells.width + k) 0 ≡ get_or (words_of_row cells y) k 0)
    → cells_stored cells.width cells.height words ≡ cells
cells_stored-packed cells words bitmap packed =
    cells_where-same _ _ _ (has cells) (λ x y hx hy.
    grind (arith, packed y (x / 64) hy, row_bit cells x y hx)) ∙ sym (cells_where-has cells bitmap)

-- the bits past the edge of words that are the rows are 0
pub packed_edge : (cells : Cells) (words : List ℕ) → IsBitmap cells
    → ((y k : ℕ) → y < cells.height → k < words_across cells.width
    → get_or words (y * words_across cells.width + k) 0 ≡ get_or (words_of_row cells y) k 0)
    → (x y : ℕ) → cells.width ≤ x → x < 64 * words_across cells.width → y < cells.height
    → is_stored (words_across cells.width) words x y ≡ false
packed_edge cells words bitmap packed x y past within row =
    let whole : 64 * (x / 64) + x % 64 ≡ x = omega arith in
    let none = has-cells_where_right cells.width cells.height (has cells) x y past in
    let bit = (IsRowOf-words cells y).bits (x / 64) (x % 64) in
    grind (arith, nat_tests, cells_where-has cells bitmap, packed y (x / 64) row)

-- an item of a row above lies before the row
pub place_above : (b y width x : ℕ) → b < y → x < width → b * width + x < y * width
place_above b y width x above column =
    let rows : (b + 1) * width ≤ y * width = mul-le-mul_right width (omega arith) in omega arith

-- an obstacle has a bit in a word of its row
pub obstacle_bit : (cells : Cells) (x y : ℕ) → x < cells.width → has cells x y ≡ true
    → bit_at (get_or (words_of_row cells y) (x / 64) 0) (x % 64) ≡ 1
obstacle_bit cells x y inside obstacle =
    let whole : 64 * (x / 64) + x % 64 ≡ x = omega arith in
    grind (arith, (IsRowOf-words cells y).bits (x / 64) (x % 64))

-- words that are a map are it still where only those bands count that may have an obstacle
pub packed_bits : (cells : Cells) (blank : ℕ) (words : List ℕ)
    → ((x y : ℕ) → IsObstacle cells x y → bit_at blank (y / 64) ≡ 0)
    → cells_stored cells.width cells.height words ≡ cells
    → cells_where cells.width cells.height
    (λ x y. is_counted blank y && is_stored (words_across cells.width) words x y) ≡ cells
packed_bits cells blank words marked packed =
    cells_where-same _ _ _ (is_stored (words_across cells.width) words)
    (λ x y hx hy. grind (arith, nat_tests, packed, has-cells_where, marked x y)) ∙ packed
