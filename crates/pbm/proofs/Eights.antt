-- Eight pixels of a word, as a byte and as digits.
use Rattle.std.proofs.Common.{◌≡◌, ℕ, ◌+◌, ◌*◌, ◌^◌, ◌<◌, ◌≤◌, ◌==◌, Bool, true, false, cond, eqb}
use Rattle.std.proofs.Common.{bit_and, List, [], ◌∷◌, ◌++◌, length, take, get_or, refl, arith}
use Rattle.std.specs.Int.{bit_at}
use Rattle.std.specs.Simd.Lanes.{top}
use Rattle.std.proofs.lemmas.Bool.Decides.{nat_tests}
use Rattle.std.proofs.lemmas.Nat.{pow_pos}
use Rattle.std.proofs.lemmas.Nat.Bits.{and_pow, bit_at-lt, bit_at_and, bit_at_ones}
use Rattle.pbm.proofs.Words.{each_of_eight}
use Rattle.std.proofs.lemmas.Grind.{common_steps}

-- a bit of the lowest eight is a bit of the word
pub bit_of_lowest : (word i : ℕ) → i < 8 → bit_at (bit_and word 255) i ≡ bit_at word i
bit_of_lowest word i within =
    let ones : bit_at 255 i ≡ 1 = bit_at_ones 8 i within in
    let bit = bit_at-lt word i in
    rw (bit_at_and word 255 i, ones) (omega (arith, bit))

-- the top bit of a lane that is all ones, or none, is the test that chose it
top_of_lane : (test : Bool) → top 7 (cond test 255 0) ≡ test
top_of_lane true = refl
top_of_lane false = refl

-- the digit of a lane, by the test of one bit alone
abbrev pub lane_digit : ℕ → ℕ → ℕ
lane_digit eight place =
    cond {A = ℕ} (top 7 (cond {A = ℕ} (eqb (bit_and eight place) place) 255 0)) 49 48

-- a bit times a power of two is that power where the bit is set
digit_by_bit : (b n : ℕ) → b < 2 → 0 < n → cond {A = ℕ} (b * n == n) 49 48 ≡ 48 + b
digit_by_bit b n few some = grind (arith, nat_tests, common_steps)

-- the digit of a lane is that of its bit
lane_digit-is : (eight i : ℕ) → lane_digit eight (2 ^ i) ≡ 48 + bit_at eight i
lane_digit-is eight i =
    grind (arith, nat_tests, common_steps, and_pow, bit_at-lt, digit_by_bit, pow_pos, top_of_lane)

-- the digits of eight lanes
abbrev pub lane_digits : ℕ → List ℕ
lane_digits eight =
    lane_digit eight 1 ∷ lane_digit eight 2 ∷ lane_digit eight 4 ∷ lane_digit eight 8
    ∷ lane_digit eight 16 ∷ lane_digit eight 32 ∷ lane_digit eight 64 ∷ lane_digit eight 128 ∷ []

-- each of eight lanes' digits is that of its bit
pub lane_digits-are : (eight i : ℕ) → i < 8 → get_or (lane_digits eight) i 0 ≡ 48 + bit_at eight i
lane_digits-are eight i within =
    each_of_eight (λ k. get_or (lane_digits eight) k 0 ≡ 48 + bit_at eight k)
    (lane_digit-is eight 0) (lane_digit-is eight 1) (lane_digit-is eight 2) (lane_digit-is eight 3)
    (lane_digit-is eight 4) (lane_digit-is eight 5) (lane_digit-is eight 6)
    (lane_digit-is eight 7) i within

-- what was written from a place on stands there
pub get_or-written : (first k : ℕ) (row bytes rest : List ℕ) → first ≤ length row → k < length bytes
    → get_or (take first row ++ (bytes ++ rest)) (first + k) 0 ≡ get_or bytes k 0
get_or-written first k row bytes rest within inside = grind (arith, nat_tests, common_steps)
