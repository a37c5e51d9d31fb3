-- The bits of a word that lie between two places, and those of a row's words.
use Rattle.std.proofs.Common.{◌≡◌, ℕ, suc, ◌+◌, ◌-◌, ◌*◌, ◌/◌, ◌%◌, ◌^◌, ◌<◌, ◌≤◌, inl, inr}
use Rattle.std.proofs.Common.{Bool, MatchBool, true, false, get_or, refl, sym, ap, ◌∙◌, arith}
use Rattle.std.specs.Prelude.{not, nat_eq}
use Rattle.std.specs.Int.{bit_at}
use Rattle.std.proofs.lemmas.Bool.{cases_lt}
use Rattle.std.proofs.lemmas.Bool.Decides.{nat_tests}
use Rattle.std.proofs.lemmas.Grind.{common_steps}
use Rattle.std.proofs.lemmas.Nat.{leading_top}
use Rattle.std.proofs.lemmas.Nat.Bits.{bit_at_and, bit_at-lt, bit_at-zero, bit_at_mask_inside}
use Rattle.std.proofs.lemmas.Nat.Bits.{bit_at_mask_below}
use lib.Bits.{bit_and}
use Rattle.bits.specs.Cells.{Cells, IsObstacle}
use Rattle.bits.specs.Words.{words_across}
use Rattle.clearance.proofs.RowWords.{IsRowOf-words}
use Rattle.clearance.specs.Rows.{words_of_row}
use Rattle.footprint.specs.Rows.{IsInWord}

-- a test that is turned
by_not : (test : Bool) (A B : Type 0) → (test ≡ false → A) → (test ≡ true → B)
    → MatchBool (not test) A B
by_not true A B some none = none refl
by_not false A B some none = some refl

-- a test whether a number isn't 0
unless_zero : (m : ℕ) (A B : Type 0) → (0 < m → A) → (m ≡ 0 → B)
    → MatchBool (not (nat_eq m 0)) A B
unless_zero m A B some none = by_not (nat_eq m 0) A B
    (λ other. some (grind (arith, nat_tests))) (λ same. none (grind (arith, nat_tests)))

-- the highest bit of a number is 1
top_bit : (n j : ℕ) → 2 ^ j ≤ n → n < 2 ^ suc j → bit_at n j ≡ 1
top_bit n j low high = grind (arith, nat_tests, common_steps)

-- a number above 0 has a bit
some_bit : (n : ℕ) → 0 < n → n < 2 ^ 64 → (i : ℕ) × (i < 64) × (bit_at n i ≡ 1)
some_bit n some fits =
    let (j, sum, low, high) = leading_top 64 n some fits in
    (j, omega arith, top_bit n j low high)

-- the bits that a mask of ones from a place on leaves are those from there on
left_by_mask : (low from i : ℕ) → i < 64 → bit_at (bit_and low (2 ^ 64 - 2 ^ from)) i ≡ 1
    → (from ≤ i) × (bit_at low i ≡ 1)
left_by_mask low from i within bit =
    let both = bit_at_and low (2 ^ 64 - 2 ^ from) i in
    let small = bit_at-lt low i in
    elim (cases_lt i from) [
      | inl below ↦
          let outside = bit_at_mask_below from 64 i below in
          absurd (omega (arith, both, bit, ap (λ m. bit_at low i * m) outside))
      | inr above ↦
          let inside = bit_at_mask_inside from 64 i above within in
          (above, omega (arith, both, bit, small, ap (λ m. bit_at low i * m) inside))
    ]

-- a bit from there on is left
kept_by_mask : (low from i : ℕ) → from ≤ i → i < 64 → bit_at low i ≡ 1
    → bit_at (bit_and low (2 ^ 64 - 2 ^ from)) i ≡ 1
kept_by_mask low from i above within bit =
    bit_at_and low (2 ^ 64 - 2 ^ from) i ∙ rw (bit_at_mask_inside from 64 i above within, bit) refl

-- whether a word whose bits from `end` on are cleared has one from `from` on
pub found_between : (low word from end : ℕ) → bit_and low (2 ^ 64 - 2 ^ from) < 2 ^ 64
    → ((i : ℕ) → i < end → i < 64 → bit_at low i ≡ bit_at word i)
    → ((i : ℕ) → end ≤ i → i < 64 → bit_at low i ≡ 0)
    → MatchBool (not (nat_eq (bit_and low (2 ^ 64 - 2 ^ from)) 0))
    ((i : ℕ) × (from ≤ i) × (i < end) × (i < 64) × (bit_at word i ≡ 1))
    ((i : ℕ) → from ≤ i → i < end → i < 64 → bit_at word i ≡ 1 → ⊥)
found_between low word from end fits kept cleared =
    unless_zero (bit_and low (2 ^ 64 - 2 ^ from))
    ((i : ℕ) × (from ≤ i) × (i < end) × (i < 64) × (bit_at word i ≡ 1))
    ((i : ℕ) → from ≤ i → i < end → i < 64 → bit_at word i ≡ 1 → ⊥)
    (λ some.
    let (i, within, bit) = some_bit (bit_and low (2 ^ 64 - 2 ^ from)) some fits in
    let left = left_by_mask low from i within bit in
    elim (cases_lt i end) [
      | inl before ↦ (i, left.0, before, within, sym (kept i before within) ∙ left.1)
      | inr after ↦
          let none = cleared i after within in
          let one = left.1 in
          absurd (omega (arith, none, one))
    ])
    (λ none. λ i after before within bit.
    let here = kept_by_mask low from i after within (kept i before within ∙ bit) in
    let zero_bit = bit_at-zero i in
    let gone : bit_at (bit_and low (2 ^ 64 - 2 ^ from)) i ≡ bit_at 0 i =
    ap (λ (n : ℕ). bit_at n i) none in
    absurd (omega (arith, here, gone, zero_bit)))

-- the bits of a tile's word in some columns are counted from the tile's first
pub found_in_tile : (first end tile word from : ℕ) (found : Bool) → 64 * tile < end
    → from ≡ first - 64 * tile
    → MatchBool found
    ((i : ℕ) × (from ≤ i) × (i < end - 64 * tile) × (i < 64) × (bit_at word i ≡ 1))
    ((i : ℕ) → from ≤ i → i < end - 64 * tile → i < 64 → bit_at word i ≡ 1 → ⊥)
    → MatchBool found ((x : ℕ) × IsInWord first end tile word x)
    ((x : ℕ) → IsInWord first end tile word x → ⊥)
found_in_tile first end tile word from true some from_is (i, after, before, within, bit) =
    let place : (64 * tile + i) % 64 ≡ i = omega arith in (
      64 * tile + i,
      record {
        within = record { after = omega arith; before = omega arith };
        here = omega arith;
        bit = rw place bit;
      },
    )
found_in_tile first end tile word from false some from_is none = λ x is.
    let after = is.within.after in
    let before = is.within.before in
    let here = is.here in
    none (x % 64) (omega arith) (omega arith) (omega arith) is.bit

-- a bit of a row's word is an obstacle
pub obstacle_of_bit : (cells : Cells) (y tile word x : ℕ)
    → word ≡ get_or (words_of_row cells y) tile 0 → tile < words_across cells.width
    → x / 64 ≡ tile → bit_at word (x % 64) ≡ 1 → IsObstacle cells x y
obstacle_of_bit cells y tile word x is within here bit =
    let row = IsRowOf-words cells y in grind (arith, nat_tests, common_steps)

-- an obstacle is a bit of its row's word
pub bit_of_obstacle : (cells : Cells) (y tile word x : ℕ)
    → word ≡ get_or (words_of_row cells y) tile 0 → tile < words_across cells.width
    → x / 64 ≡ tile → IsObstacle cells x y → bit_at word (x % 64) ≡ 1
bit_of_obstacle cells y tile word x is within here obstacle =
    let row = IsRowOf-words cells y in grind (arith, nat_tests, common_steps)
