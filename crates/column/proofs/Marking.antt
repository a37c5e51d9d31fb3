-- Which entries still stand for no row, as masks of bits tell it.
use Rattle.std.proofs.Common.{false, zero, suc, eqb, cond, List, [], ◌∷◌, get_or, replicate, ap₂}
use Rattle.std.proofs.Common.{◌≡◌, ℕ, ◌-◌, ◌*◌, ◌^◌, ◌<◌, ◌==◌, ◌∙◌, min, arith, refl, sym, ap, not}
use Rattle.std.specs.Int.{bit_at, w64}
use mathlib.Core.Logic.{inl, inr}
use Rattle.std.proofs.lemmas.Bool.{cases_lt}
use Rattle.std.proofs.lemmas.Nat.{pow_pos}
use lib.Bits.{bit_and}
use Rattle.std.proofs.lemmas.Bool.Decides.{nat_tests}
use Rattle.std.proofs.lemmas.Nat.Bits.{bit_at_and, bit_at_not, bit_at-lt, bit_at-zero, and_pow}
use Rattle.std.specs.Simd.Lanes.{zip2}
use Rattle.std.proofs.lemmas.List.{get_or-replicate}
use Rattle.std.proofs.lemmas.Simd.{get_or-zip2}
use Rattle.column.specs.Marks.{marked, first_marked}

-- by its bit, a column is missing still where it was missing and the word has no obstacle there
bit_missing : (b m entry y : ℕ) → b < 2 → m < 2 → y < 4098 → (m == 1) ≡ (entry == 65535)
    → (min m (1 - b) == 1) ≡ (marked (min b m == 1) y entry == 65535)
bit_missing b m entry y hb hm small was = grind (arith, nat_tests)

-- one bit: an obstacle is written where the column was missing
bit_marked : (b m entry y : ℕ) → b < 2 → m < 2 → (m == 1) ≡ (entry == 65535)
    → marked (min b m == 1) y entry ≡ first_marked (b == 1) y entry
bit_marked b m entry y hb hm was = grind (arith, nat_tests)

-- a column is missing still where it was missing, and the word has no obstacle there
pub new_missing : (word missing i old new y : ℕ) → word < 2 ^ 64 → i < 64 → y < 4098
    → (bit_at missing i == 1) ≡ (old == 65535)
    → new ≡ marked (bit_at (bit_and word missing) i == 1) y old
    → (bit_at (bit_and missing (18446744073709551615 - word)) i == 1) ≡ (new == 65535)
new_missing word missing i old new y fits place small was is =
    let without : bit_at (bit_and missing (18446744073709551615 - word)) i
    ≡ min (bit_at missing i) (1 - bit_at word i) =
    bit_at_and missing (18446744073709551615 - word) i
    ∙ ap (min (bit_at missing i)) (bit_at_not w64 word i fits place) in
    rw (without, is, bit_at_and word missing i)
    (bit_missing (bit_at word i) (bit_at missing i) old y (bit_at-lt word i)
    (bit_at-lt missing i) small was)

-- an obstacle is written where the column was missing
pub new_marked : (word missing i old new y : ℕ) → (bit_at missing i == 1) ≡ (old == 65535)
    → new ≡ marked (bit_at (bit_and word missing) i == 1) y old
    → new ≡ first_marked (bit_at word i == 1) y old
new_marked word missing i old new y was is =
    rw (is, bit_at_and word missing i)
    (bit_marked (bit_at word i) (bit_at missing i) old y (bit_at-lt word i)
    (bit_at-lt missing i) was)

-- without an obstacle in a missing column nothing is written
pub none_marked : (word missing i old y : ℕ) → (bit_at missing i == 1) ≡ (old == 65535)
    → bit_and word missing ≡ 0 → old ≡ first_marked (bit_at word i == 1) y old
none_marked word missing i old y was none =
    let free : marked (bit_at 0 i == 1) y old ≡ old = rw (bit_at-zero i) refl in
    new_marked word missing i old old y was (rw none (sym free))

-- a number that the test for other numbers than 0 refuses is 0
pub zero_from_test : (n : ℕ) → not (n == 0) ≡ false → n ≡ 0
zero_from_test n test = grind (arith, nat_tests)

-- a bit times a number that isn't none is the number where the bit is set
by_bit : (b n : ℕ) → b < 2 → 0 < n → (b * n == n) ≡ (b == 1)
by_bit b n few some = elim (cases_lt b 1) [
  | inl less ↦ let none : b ≡ 0 = omega arith in rw none (grind (arith, nat_tests))
  | inr set ↦ let one : b ≡ 1 = omega arith in rw one (grind (arith, nat_tests))
]

-- a bit alone, cut out of some bits, is itself where they have it
has_place : (bits i : ℕ) → (bit_and bits (2 ^ i) == 2 ^ i) ≡ (bit_at bits i == 1)
has_place bits i =
    rw (and_pow bits i) (by_bit (bit_at bits i) (2 ^ i) (bit_at-lt bits i) (pow_pos i))

-- each of the lowest eight bits stands alone
abbrev pub places : List ℕ
places = 1 ∷ 2 ∷ 4 ∷ 8 ∷ 16 ∷ 32 ∷ 64 ∷ 128 ∷ []

-- each of the lowest eight bits, alone, is a power of 2
place_at : (i : ℕ) → i < 8 → get_or places i 0 ≡ 2 ^ i
place_at zero within = refl
place_at (suc zero) within = refl
place_at (suc (suc zero)) within = refl
place_at (suc (suc (suc zero))) within = refl
place_at (suc (suc (suc (suc zero)))) within = refl
place_at (suc (suc (suc (suc (suc zero))))) within = refl
place_at (suc (suc (suc (suc (suc (suc zero)))))) within = refl
place_at (suc (suc (suc (suc (suc (suc (suc zero))))))) within = refl
place_at (suc (suc (suc (suc (suc (suc (suc (suc i)))))))) within = absurd (omega arith)

-- each of eight entries becomes the row where its place's bit is set, and stays otherwise
pub lane_marked : (bits y i : ℕ) (entries : List ℕ) → i < 8
    → cond (eqb (get_or (zip2 bit_and (replicate 8 bits) places) i 0) (get_or places i 0))
    (get_or (replicate 8 y) i 0) (get_or entries i 0)
    ≡ marked (bit_at bits i == 1) y (get_or entries i 0)
lane_marked bits y i entries within =
    let cut : get_or (zip2 bit_and (replicate 8 bits) places) i 0 ≡ bit_and bits (2 ^ i) =
    get_or-zip2 bit_and (replicate 8 bits) places i 0 0 0 within within
    ∙ ap₂ bit_and (get_or-replicate {A = ℕ} 8 i bits 0 within) (place_at i within) in
    rw (cut, place_at i within, get_or-replicate {A = ℕ} 8 i y 0 within, has_place bits i) refl
