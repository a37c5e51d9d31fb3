-- A part of a bitmap is laid on a tile: shifted words, and rows written by them.
use Rattle.std.proofs.Common.{◌≡◌, ℕ, ◌+◌, ◌-◌, ◌*◌, ◌/◌, ◌%◌, ◌^◌, ◌<◌, ◌≤◌, ◌==◌, ◌&&◌, nat_le}
use Rattle.std.proofs.Common.{nat_lt, Bool, true, false, cond, if◌then◌else◌, List, get_or, min}
use Rattle.std.proofs.Common.{max, bit_and, bit_or, ap, sym, ◌∙◌, arith}
use Rattle.std.specs.Int.{bit_at, w64}
use Rattle.std.proofs.lemmas.Nat.{mod_below, div-add-mod', or_lt, and_le_l, pow_pos}
use Rattle.std.proofs.lemmas.Nat.Bits.{bit_at_and, bit_at_or, bit_at_not, bit_at-lt, bit_at-zero}
use Rattle.std.proofs.lemmas.Nat.Bits.{bit_at_above, bit_at_cat_low, bit_at_cat_high}
use Rattle.std.proofs.lemmas.Nat.Bits.{same_from_bits_below}
use Rattle.std.proofs.Math.ListN.{get_or-eq_default}
use Rattle.std.proofs.lemmas.Bool.{cases_lt}
use Rattle.std.proofs.lemmas.Bool.Decides.{nat_tests}
use mathlib.Core.Logic.{inl, inr}
use Rattle.bits.specs.Cells.{Cells, has, IsBitmap}
use Rattle.bits.specs.Words.{IsRowOf}
use Rattle.bits.specs.TileWords.{is_bit, filled_word}
use Rattle.bits.proofs.TileLemmas.{word_where-lt, bit_at-word_where}
use Rattle.bits.proofs.TileBitsLemmas.{IsMask}
use Rattle.bits.proofs.TileDrawLemmas.{out_of}
use Rattle.bits.proofs.StoredLemmas.{test_of_bit}

-- the bits of a word that is shifted to the right
bit_at-right : (n s j : ℕ) → bit_at (n / 2 ^ s) j ≡ bit_at n (s + j)
bit_at-right n s j =
    sym (ap (λ (m : ℕ). bit_at m (s + j)) (sym (div-add-mod' n (2 ^ s)))
    ∙ (bit_at_cat_high (n / 2 ^ s) s (n % 2 ^ s) (s + j) (mod_below n (2 ^ s) (pow_pos s))
    (omega arith)
    ∙ ap (bit_at (n / 2 ^ s)) (let back : s + j - s ≡ j = omega arith in back)))

-- the low bits of a number stay in its rest
bit_at-rest : (n k j : ℕ) → j < k → bit_at (n % 2 ^ k) j ≡ bit_at n j
bit_at-rest n k j h =
    sym (ap (λ (m : ℕ). bit_at m j) (sym (div-add-mod' n (2 ^ k)))
    ∙ bit_at_cat_low (n / 2 ^ k) k (n % 2 ^ k) j h)

-- a word that is shifted to the left has zeros at its low end
left_low : (n s j : ℕ) → j < s → j < 64 → bit_at (n * 2 ^ s % 2 ^ 64) j ≡ 0
left_low n s j low h =
    bit_at-rest (n * 2 ^ s) 64 j h
    ∙ (ap (λ (m : ℕ). bit_at m j) (let plain : n * 2 ^ s ≡ n * 2 ^ s + 0 = omega arith in plain)
    ∙ (bit_at_cat_low n s 0 j low ∙ bit_at-zero j))

-- the bits of a word shifted to the left are that much higher
pub left_high : (n s j : ℕ) → s ≤ j → j < 64 → bit_at (n * 2 ^ s % 2 ^ 64) j ≡ bit_at n (j - s)
left_high n s j high h =
    bit_at-rest (n * 2 ^ s) 64 j h
    ∙ (ap (λ (m : ℕ). bit_at m j) (let plain : n * 2 ^ s ≡ n * 2 ^ s + 0 = omega arith in plain)
    ∙ bit_at_cat_high n s 0 j (pow_pos s) high)

-- of two bits joined by or, the one from the left word counts while its place is in that word
pick_left : (s j a b x y : ℕ) → s + j < 64 → a ≡ x → b ≡ 0
    → max a b ≡ (if nat_lt (s + j) 64 then x else y)
pick_left s j a b x y h l r = grind (arith, nat_tests)

-- of two bits joined by or, the one from the right word counts where its place is past the left
-- word
pick_right : (s j a b x y : ℕ) → 64 ≤ s + j → a ≡ 0 → b ≡ y
    → max a b ≡ (if nat_lt (s + j) 64 then x else y)
pick_right s j a b x y h l r = grind (arith, nat_tests)

-- two words next to one another, joined from a column on, have the bits of the left one and then of
-- the right one
pub joined_bits : (left right s j : ℕ) → left < 2 ^ 64 → s < 64 → 0 < s → j < 64
    → bit_at (bit_or (left / 2 ^ s) (right * 2 ^ (64 - s) % 2 ^ 64)) j
    ≡ (if nat_lt (s + j) 64 then bit_at left (s + j) else bit_at right (s + j - 64))
joined_bits left right s j fits small some h =
    bit_at_or _ _ j
    ∙ elim (cases_lt (s + j) 64) [
      | inl low ↦ pick_left s j _ _ (bit_at left (s + j)) (bit_at right (s + j - 64)) low
          (bit_at-right left s j) (left_low right (64 - s) j (omega arith) h)
      | inr high ↦ pick_right s j _ _ (bit_at left (s + j)) (bit_at right (s + j - 64)) high
          (bit_at-right left s j ∙ bit_at_above left 64 (s + j) fits high)
          (left_high right (64 - s) j (omega arith) h
          ∙ ap (bit_at right) (let same : j - (64 - s) ≡ s + j - 64 = omega arith in same))
    ]

-- the words of a row tell its cells, also past its words
row_cell : (cells : Cells) (y : ℕ) (words : List ℕ) → IsBitmap cells → IsRowOf cells y words
    → (k i : ℕ) → i < 64 → is_bit (get_or words k 0) i ≡ has cells (64 * k + i) y
row_cell cells y words is row k i h =
    grind (arith, cases_lt, test_of_bit, get_or-eq_default, bit_at-zero, out_of, nat_tests)

-- a choice by a place in the left word is the left value
from_left : (s j a b : ℕ) → s + j < 64 → (if nat_lt (s + j) 64 then a else b) ≡ a
from_left s j a b h = grind (arith, nat_tests)

-- a choice by a place past the left word is the right value
from_right : (s j a b : ℕ) → 64 ≤ s + j → (if nat_lt (s + j) 64 then a else b) ≡ b
from_right s j a b h = grind (arith, nat_tests)

-- a word joined from two of a row tells its cells from a column on
pub row_from_bits : (cells : Cells) (x y place shift left right word : ℕ) (words : List ℕ)
    → IsBitmap cells → IsRowOf cells y words → place ≡ x / 64 → shift ≡ x % 64
    → left ≡ get_or words place 0 → right ≡ get_or words (place + 1) 0
    → ((j : ℕ) → j < 64
    → bit_at word j ≡ (if nat_lt (shift + j) 64 then bit_at left (shift + j)
    else bit_at right (shift + j - 64)))
    → (j : ℕ) → j < 64 → is_bit word j ≡ has cells (x + j) y
row_from_bits cells x y place shift left right word words is row place_is shift_is left_is right_is
    bits j h =
    ap (λ (n : ℕ). n == 1) (bits j h)
    ∙ elim (cases_lt (shift + j) 64) [
      | inl low ↦
          ap (λ (n : ℕ). n == 1) (from_left shift j (bit_at left (shift + j))
          (bit_at right (shift + j - 64)) low ∙ ap (λ (w : ℕ). bit_at w (shift + j)) left_is)
          ∙ (row_cell cells y words is row place (shift + j) low
          ∙ ap (λ (c : ℕ). has cells c y) (let same : 64 * place + (shift + j) ≡ x + j =
          omega arith in same))
      | inr high ↦
          ap (λ (n : ℕ). n == 1) (from_right shift j (bit_at left (shift + j))
          (bit_at right (shift + j - 64)) high
          ∙ ap (λ (w : ℕ). bit_at w (shift + j - 64)) right_is)
          ∙ (row_cell cells y words is row (place + 1) (shift + j - 64) (omega arith)
          ∙ ap (λ (c : ℕ). has cells c y)
          (let same : 64 * (place + 1) + (shift + j - 64) ≡ x + j = omega arith in same))
    ]

-- below the last row there is none
pub row_from_none : (cells : Cells) (x y : ℕ) → IsBitmap cells → cells.height ≤ y → (j : ℕ)
    → is_bit 0 j ≡ has cells (x + j) y
row_from_none cells x y is past j =
    ap (λ (n : ℕ). n == 1) (bit_at-zero j) ∙ sym (out_of cells is (x + j) y (λ no. past))

-- a bit that is taken from one of two words
bit_laid : (inside : Bool) (a b m : ℕ) (value : Bool) → a < 2 → b < 2 → m ≡ cond inside 1 0
    → (inside ≡ true → b ≡ cond value 1 0)
    → max (min a (1 - m)) (min b m) ≡ cond (if inside then value else (a == 1)) 1 0
bit_laid true a b m true ha hb is same = grind (arith, nat_tests)
bit_laid true a b m false ha hb is same = grind (arith, nat_tests)
bit_laid false a b m value ha hb is same = grind (arith, nat_tests)

-- a number that passes the test of a range is at least its start
inside_range : (from to j : ℕ) → (nat_le from j && nat_lt j to) ≡ true → from ≤ j
inside_range from to j h = grind (arith, nat_tests)

-- a row whose columns of a mask are taken from another word is filled with those
pub laid_word : (old word from to mask : ℕ) (value : ℕ → Bool) → old < 2 ^ 64 → word < 2 ^ 64
    → mask < 2 ^ 64 → IsMask from to mask → ((j : ℕ) → from ≤ j → j < 64 → is_bit word j ≡ value j)
    → bit_or (bit_and old (2 ^ 64 - 1 - mask)) (bit_and word mask) ≡ filled_word old from to value
unfolding filled_word
laid_word old word from to mask value fits word_fits mask_fits is says =
    same_from_bits_below 64 _ _
    (or_lt 64 (bit_and old (2 ^ 64 - 1 - mask)) (bit_and word mask)
    (let less = and_le_l old (2 ^ 64 - 1 - mask) in omega arith)
    (let less = and_le_l word mask in omega arith))
    (word_where-lt _ 64) (λ j h.
    bit_at_or _ _ j
    ∙ ((λ i. max ((bit_at_and old (2 ^ 64 - 1 - mask) j
    ∙ ap (min (bit_at old j)) (bit_at_not w64 mask j mask_fits h)) i) (bit_at_and word mask j i))
    ∙ (bit_laid (nat_le from j && nat_lt j to) (bit_at old j) (bit_at word j) (bit_at mask j)
    (value j) (bit_at-lt old j) (bit_at-lt word j) (is j h)
    (λ inside. bit_of (bit_at word j) (value j) (bit_at-lt word j)
    (says j (inside_range from to j inside) h))
    ∙ sym (bit_at-word_where (λ j. if nat_le from j && nat_lt j to then value j else is_bit old j)
    64 j h))))
  where
    bit_of : (n : ℕ) (test : Bool) → n < 2 → (n == 1) ≡ test → n ≡ cond test 1 0
    bit_of n true h is = grind (arith, nat_tests)
    bit_of n false h is = grind (arith, nat_tests)
