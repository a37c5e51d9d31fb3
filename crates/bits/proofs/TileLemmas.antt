-- Rows of tiles as numbers: what their bits say, and when two are equal.
use Rattle.std.proofs.Common.{◌≡◌, ℕ, zero, suc, ◌+◌, ◌-◌, ◌*◌, ◌/◌, ◌%◌, ◌^◌, ◌<◌, ◌≤◌, Bool, true}
use Rattle.std.proofs.Common.{false, cond, List, get_or, refl, ap, sym, ◌∙◌, arith}
use Rattle.std.specs.Int.{bit_at}
use Rattle.std.proofs.lemmas.Nat.{mod_below, div-mul-add, mod-mul-add, mul-add-lt, row-Below}
use Rattle.std.proofs.lemmas.Nat.Bits.{bit_at_cat_low, bit_at_cat_high, bit_at-zero}
use Rattle.std.proofs.lemmas.Nat.Bits.{same_from_bits_below}
use Rattle.std.proofs.lemmas.Bool.{cases_lt}
use mathlib.Core.Logic.{inl, inr}
use Rattle.bits.proofs.CellsLemmas.{has-outside}
use Rattle.std.proofs.Math.Nat.{pow-suc, mul-le-mul_right}
use Rattle.bits.specs.Cells.{Cells, has, IsBitmap}
use Rattle.bits.specs.Words.{words_across, IsRowOf}
use Rattle.bits.specs.Tiles.{tiles_down, tile_count, tile_of, tile_has, word_where, row_word}

-- an answer counts at most 1
few_of : (test : Bool) → cond test 1 0 ≤ 1
few_of true = omega arith
few_of false = omega arith

-- an answer is its own lowest bit
bit_of : (test : Bool) → bit_at (cond test 1 0) 0 ≡ cond test 1 0
bit_of true = refl
bit_of false = refl

-- as many answers make a number of as many bits
pub word_where-lt : (test : ℕ → Bool) (n : ℕ) → word_where test n < 2 ^ n
unfolding word_where
word_where-lt test zero = omega arith
word_where-lt test (suc n) = grind (arith, few_of, pow-suc, mul-le-mul_right, word_where-lt test n)

-- each bit is the answer at its place
pub bit_at-word_where : (test : ℕ → Bool) (n i : ℕ) → i < n
    → bit_at (word_where test n) i ≡ cond (test i) 1 0
unfolding word_where
bit_at-word_where test zero i h = absurd (omega arith)
bit_at-word_where test (suc n) i h =
    elim (cases_lt i n) [
      | inl below ↦ bit_at_cat_low (cond (test n) 1 0) n (word_where test n) i below
          ∙ bit_at-word_where test n i below
      | inr last ↦
          let here : i ≡ n = omega arith in
          bit_at_cat_high (cond (test n) 1 0) n (word_where test n) i (word_where-lt test n) last
          ∙ (ap (bit_at (cond (test n) 1 0)) (let none : i - n ≡ 0 = omega arith in none)
          ∙ (bit_of (test n) ∙ ap (λ (k : ℕ). cond (test k) 1 0) (sym here)))
    ]

-- bit j of a row of a tile is the cell of its column j
pub bit_at-row_word : (cells : Cells) (k i j : ℕ) → j < 64
    → bit_at (row_word cells k i) j ≡ cond (tile_has cells k i j) 1 0
unfolding row_word
bit_at-row_word cells k i j h = bit_at-word_where (tile_has cells k i) 64 j h

-- a row of a tile is a word of 64 bits
pub row_word-lt : (cells : Cells) (k i : ℕ) → row_word cells k i < 2 ^ 64
unfolding row_word
row_word-lt cells k i = word_where-lt (tile_has cells k i) 64

-- a word whose bits are the cells of a row of a tile is that row
pub row_word_is : (cells : Cells) (k i word : ℕ) → word < 2 ^ 64
    → ((j : ℕ) → j < 64 → bit_at word j ≡ cond (tile_has cells k i j) 1 0)
    → word ≡ row_word cells k i
row_word_is cells k i word fits says =
    same_from_bits_below 64 word (row_word cells k i) fits (row_word-lt cells k i)
    (λ j h. says j h ∙ sym (bit_at-row_word cells k i j h))

-- rows of tiles with the same cells are equal
pub row_word-same : (a b : Cells) (k i : ℕ)
    → ((j : ℕ) → j < 64 → tile_has a k i j ≡ tile_has b k i j) → row_word a k i ≡ row_word b k i
row_word-same a b k i same =
    row_word_is b k i (row_word a k i) (row_word-lt a k i)
    (λ j h. bit_at-row_word a k i j h ∙ ap (λ (test : Bool). cond test 1 0) (same j h))

-- a cell is found again in its tile
pub tile_has-tile_of : (cells : Cells) (x y : ℕ) → x < cells.width
    → tile_has cells (tile_of cells x y) (y % 64) (x % 64) ≡ has cells x y
tile_has-tile_of cells x y hx = grind (arith, mod-mul-add, div-mul-add)

-- the tile of a cell is one of the bitmap's
pub tile_of-lt : (cells : Cells) (x y : ℕ) → x < cells.width → y < cells.height
    → tile_of cells x y < tile_count cells
tile_of-lt cells x y hx hy = grind (arith, mul-add-lt)

-- the rows above a tile are rows of the bitmap
pub tile_above : (cells : Cells) (k across : ℕ) → k < tile_count cells
    → across ≡ words_across cells.width
    → k / across < tiles_down cells.height
tile_above cells k across within across_is = grind (arith, row-Below)

-- row i of a tile that the bitmap's rows reach, read from the words of its row
pub tile_row_read : (cells : Cells) (k i across y : ℕ) (words : List ℕ) (word : ℕ) → 1 ≤ across
    → across ≡ words_across cells.width
    → y ≡ 64 * (k / across) + i → IsRowOf cells y words → word ≡ get_or words (k % across) 0
    → word < 2 ^ 64 → word ≡ row_word cells k i
tile_row_read cells k i across y words word some across_is y_is row read fits =
    let column : k % across < words_across cells.width = omega (arith, mod_below k across some) in
    row_word_is cells k i word fits (λ j h.
    ap (λ (w : ℕ). bit_at w j) read
    ∙ (row.bits (k % across) j column h
    ∙ (ap (λ (r : ℕ). cond (has cells (64 * (k % across) + j) r) 1 0) y_is
    ∙ ap (λ (a : ℕ). cond (has cells (64 * (k % a) + j) (64 * (k / a) + i)) 1 0) across_is)))

-- no bitmap has an obstacle below its last row
has-below : (cells : Cells) → IsBitmap cells → (x y : ℕ) → cells.height ≤ y → has cells x y ≡ false
has-below cells bitmap x y past = grind (arith, has-outside)

-- a row of a tile past the bitmap's last row has no obstacle
pub tile_row_past : (cells : Cells) → IsBitmap cells → (k i across y : ℕ)
    → across ≡ words_across cells.width → y ≡ 64 * (k / across) + i
    → cells.height ≤ y → 0 ≡ row_word cells k i
tile_row_past cells bitmap k i across y across_is y_is past =
    let row_is : y ≡ 64 * (k / words_across cells.width) + i = y_is
    ∙ ap (λ (a : ℕ). 64 * (k / a) + i) across_is in
    row_word_is cells k i 0 (omega arith) (λ j h.
    bit_at-zero j
    ∙ ap (λ (test : Bool). cond test 1 0)
    (sym (ap (has cells (64 * (k % words_across cells.width) + j)) (sym row_is)
    ∙ has-below cells bitmap (64 * (k % words_across cells.width) + j) y past)))
