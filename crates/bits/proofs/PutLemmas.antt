-- A row of a bitmap is written, word by word, and a tile, row by row.
use Rattle.std.proofs.Common.{◌≡◌, ℕ, ◌+◌, ◌-◌, ◌*◌, ◌/◌, ◌%◌, ◌<◌, ◌≤◌, ◌==◌, ◌&&◌, nat_lt}
use Rattle.std.proofs.Common.{if◌then◌else◌, min, Bool, true, false, List, get_or, length, ap}
use Rattle.std.proofs.Common.{sym, ◌∙◌, arith}
use Rattle.std.specs.Int.{bit_at}
use Rattle.std.proofs.lemmas.Bool.Decides.{nat_tests}
use Rattle.std.proofs.lemmas.Nat.{div-mul-add, mod-mul-add, div-add-mod'}
use Rattle.std.proofs.lemmas.Nat.Bits.{bit_at-zero}
use Rattle.bits.specs.Bands.{AreTiled}
use Rattle.bits.specs.Cells.{Cells, has, cells_where, IsBitmap}
use Rattle.bits.specs.Words.{words_across}
use Rattle.bits.specs.Tiles.{tile_of}
use Rattle.bits.specs.TileWords.{is_bit}
use Rattle.bits.specs.Writes.{with_row, with_word, with_tile}
use Rattle.bits.proofs.CellsLemmas.{cells_where-same, cells_where-has, has-cells_where}

-- a word that is written over given cells, cell by cell
with_word-where : (w h : ℕ) (f g : ℕ → ℕ → Bool) (y index word : ℕ)
    → ((a b : ℕ) → a < w → b < h
    → (if b == y && a / 64 == index then bit_at word (a % 64) == 1 else f a b) ≡ g a b)
    → with_word (cells_where w h f) y index word ≡ cells_where w h g
with_word-where w h f g y index word same =
    cells_where-same w h _ g (λ a b ha hb.
    ap (λ (o : Bool). if b == y && a / 64 == index then bit_at word (a % 64) == 1 else o)
    (has-cells_where w h f a b ha hb) ∙ same a b ha hb)

-- the bitmap once this many words of the row are written
abbrev pub row_front : Cells → ℕ → List ℕ → ℕ → Cells
row_front cells y words n =
    cells_where cells.width cells.height
    (λ a b. if b == y && nat_lt (a / 64) n then is_bit (get_or words (a / 64) 0) (a % 64)
    else has cells a b)

-- no column lies before the first word
none_before : (b y k : ℕ) (new old : Bool) → old ≡ (if b == y && nat_lt k 0 then new else old)
none_before b y k new old = grind (arith, nat_tests)

-- a row with one more word written has the new value in that word, and what it had elsewhere
word_more : (b y k n : ℕ) (word here old : Bool) → (k ≡ n → word ≡ here)
    → (if b == y && k == n then word else (if b == y && nat_lt k n then here else old))
    ≡ (if b == y && nat_lt k (n + 1) then here else old)
word_more b y k n word here old same = grind (arith, nat_tests)

-- each column lies before the last word
all_before : (b y k n : ℕ) (here old : Bool) → k < n
    → (if b == y && nat_lt k n then here else old) ≡ (if b == y then here else old)
all_before b y k n here old within = grind (arith, nat_tests)

-- at first no word is written
pub row_front-none : (cells : Cells) (y : ℕ) (words : List ℕ) → IsBitmap cells
    → cells ≡ row_front cells y words 0
row_front-none cells y words bitmap =
    grind (arith, cells_where-has, cells_where-same, none_before, nat_tests)

-- a row whose first n words are written has n + 1 of them after the next one
pub row_front-more : (cells : Cells) (y n word : ℕ) (words : List ℕ) → word ≡ get_or words n 0
    → with_word (row_front cells y words n) y n word ≡ row_front cells y words (n + 1)
row_front-more cells y n word words read =
    with_word-where cells.width cells.height _ _ y n word
    (λ a b ha hb. word_more b y (a / 64) n _ _ (has cells a b)
    (λ here. ap (λ (w : ℕ). is_bit w (a % 64)) (read ∙ (λ i. get_or words (sym here i) 0))))

-- after the last word the row is written
pub row_front-all : (cells : Cells) (y n : ℕ) (words : List ℕ) → words_across cells.width ≤ n
    → row_front cells y words n ≡ with_row cells y words
row_front-all cells y n words all = grind (arith, cells_where-same, all_before, nat_tests)

-- the bitmap once the rows of the tile above y are written
abbrev pub put_above : Cells → ℕ → List ℕ → ℕ → Cells
put_above old k words y =
    cells_where old.width old.height
    (λ a b. if nat_lt b y && (tile_of old a b == k) then is_bit (get_or words (b % 64) 0) (a % 64)
    else has old a b)

-- the tile of a cell tells its row and its column of tiles
pub tile_parts : (width a b k across : ℕ) → a < width → across ≡ words_across width
    → b / 64 * words_across width + a / 64 ≡ k → (b / 64 ≡ k / across) × (a / 64 ≡ k % across)
tile_parts width a b k across ha wide is = grind (arith, div-mul-add, mod-mul-add, nat_tests)

-- the row and the column of tiles of a cell tell its tile
pub tile_again : (width a b k across : ℕ) → across ≡ words_across width → b / 64 ≡ k / across
    → a / 64 ≡ k % across → b / 64 * words_across width + a / 64 ≡ k
tile_again width a b k across wide row column =
    (λ i. row i * sym wide i + column i) ∙ div-add-mod' k across

-- tests of equations that follow from one another are equal
tests_same : (m n p q : ℕ) → (m ≡ n → p ≡ q) → (p ≡ q → m ≡ n) → (m == n) ≡ (p == q)
tests_same m n p q there back = grind (arith, nat_tests)

-- a cell of a tile that starts at row y or below it is not yet written above y
not_above : (b y m n : ℕ) (value old : Bool) → (m ≡ n → y ≤ b)
    → old ≡ (if nat_lt b y && (m == n) then value else old)
not_above b y m n value old low = grind (arith, nat_tests)

-- a cell of row y is written with it, and each other cell keeps what it has
row_more : (b y : ℕ) (column tile : Bool) (new here old : Bool) → (b ≡ y → column ≡ tile)
    → (b ≡ y → new ≡ here)
    → (if b == y && column then new else (if nat_lt b y && tile then here else old))
    ≡ (if nat_lt b (y + 1) && tile then here else old)
row_more b y column true new here old same is = grind (arith, nat_tests)
row_more b y column false new here old same is = grind (arith, nat_tests)

-- a cell of a tile that ends before row y is written above y
all_above : (b y m n : ℕ) (value old : Bool) → (m ≡ n → b < y)
    → (if nat_lt b y && (m == n) then value else old) ≡ (if m == n then value else old)
all_above b y m n value old high = grind (arith, nat_tests)

module _ (cells : Cells) (k across : ℕ) (words : List ℕ) (bitmap : IsBitmap cells)
    (wide : across ≡ words_across cells.width) where
  -- at first no row is written
  pub put_first : cells ≡ put_above cells k words (64 * (k / across))
  put_first =
      cells_where-has cells bitmap
      ∙ cells_where-same cells.width cells.height (has cells) _ (λ a b ha hb.
      not_above b (64 * (k / across)) (tile_of cells a b) k _ (has cells a b)
      (λ is. let row = (tile_parts cells.width a b k across ha wide is).0 in omega arith))

  -- with one more row the tile is written above the next row
  pub put_row : (now : Cells) (y word place : ℕ) → now ≡ put_above cells k words y
      → 64 * (k / across) ≤ y → y < 64 * (k / across) + 64
      → place ≡ y - 64 * (k / across) → word ≡ get_or words place 0
      → with_word now y (k % across) word ≡ put_above cells k words (y + 1)
  put_row now y word place is low high place_is read =
      let row : place ≡ y % 64 = omega arith in
      ap (λ (c : Cells). with_word c y (k % across) word) is
      ∙ with_word-where cells.width cells.height _ _ y (k % across) word (λ a b ha hb.
      row_more b y (a / 64 == k % across) (tile_of cells a b == k) _ _ (has cells a b)
      (λ here. let down : b / 64 ≡ k / across = omega arith in
      tests_same (a / 64) (k % across) (tile_of cells a b) k
      (λ column. tile_again cells.width a b k across wide down column)
      (λ tile. (tile_parts cells.width a b k across ha wide tile).1))
      (λ here. ap (λ (w : ℕ). is_bit w (a % 64))
      (read ∙ (λ i. get_or words (row i) 0) ∙ (λ i. get_or words (sym here i % 64) 0))))

  -- after the last row the tile is written
  pub put_all : (now : Cells) (y : ℕ) → now ≡ put_above cells k words y
      → min (64 * (k / across) + 64) cells.height ≤ y → now ≡ with_tile cells k words
  put_all now y is end =
      is
      ∙ cells_where-same cells.width cells.height _ _ (λ a b ha hb.
      all_above b y (tile_of cells a b) k _ (has cells a b)
      (λ tile. let row = (tile_parts cells.width a b k across ha wide tile).0 in omega arith))

  -- to write no obstacle to a tile that has no mark changes nothing
  pub with_tile-none : (all : ℕ) (tiles : List ℕ) → 64 ≤ length words
      → ((j i : ℕ) → j < length words → bit_at (get_or words j 0) i ≡ 1 → bit_at all i ≡ 1)
      → AreTiled cells tiles → all ≡ 0
      → (bit_at (get_or tiles (k / across) 0) (k % across) ≡ 1 → ⊥)
      → cells ≡ with_tile cells k words
  with_tile-none all tiles many joined tiled none unmarked =
      grind (arith, cells_where-has, cells_where-same, bit_at-zero, tile_parts, nat_tests)
