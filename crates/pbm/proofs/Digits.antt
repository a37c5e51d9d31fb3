-- Digits of pixels that stand side by side, and their bits as a number.
use Rattle.std.proofs.Common.{◌≡◌, ℕ, ◌+◌, ◌-◌, ◌*◌, ◌/◌, ◌^◌, ◌<◌, ◌≤◌, ◌==◌, max, cond, List}
use Rattle.std.proofs.Common.{length, take, drop, get_or, sym, ap, subst, ◌∙◌, inl, inr, arith}
use Rattle.std.proofs.lemmas.Bool.Decides.{nat_tests}
use Rattle.std.specs.Int.{bit_at, trailing_ones, w64}
use Rattle.std.specs.Int.RustNames.{bit_or}
use Rattle.std.proofs.Math.Nat.{mul-le-mul_right, pow-le-pow_right}
use Rattle.std.proofs.lemmas.Bool.{cases_lt}
use Rattle.std.proofs.lemmas.Nat.{pow-add}
use Rattle.std.proofs.lemmas.Nat.Bits.{bit_at_or, bit_at_ones, bit_at-trailing_ones, ones_shr}
use Rattle.std.proofs.lemmas.List.{get_or-take}
use lib.Bits.{bit_and}
use Rattle.std.specs.Simd.Lanes.{chunk}
use Rattle.std.proofs.lemmas.Simd.{get_or-chunk}
use Rattle.std.specs.Int.Bits.{mask_lt}
use Rattle.bits.proofs.WriteLemmas.{bit_at-low}
use Rattle.pbm.specs.Plain.{AreDigits, AreSomeRead, behind_space}
use Rattle.pbm.proofs.PartReads.{AreBitsRead-digits, AreSomeRead-behind}
use Rattle.std.proofs.lemmas.Grind.{common_steps}

-- where one of two bits stands, which say whether a byte is the digit 1 or the digit 0, the byte is
-- the digit of the first
digit_is : (byte one none : ℕ) → one ≡ cond (byte == 49) 1 0 → none ≡ cond (byte == 48) 1 0
    → max one none ≡ 1 → byte ≡ 48 + one
digit_is byte one none is_one is_none some = grind (arith, nat_tests)

-- the bits below the lowest that is 0 are 1
pub below_trailing : (word k : ℕ) → word < 2 ^ 64 → k < trailing_ones w64 word
    → trailing_ones w64 word ≤ 64 → bit_at word k ≡ 1
below_trailing word k fits below few = elim (cases_lt (word + 1) (2 ^ 64)) [
  | inl some ↦ (bit_at-trailing_ones w64 word some).2 k below
  | inr none ↦
      let all : word ≡ 2 ^ 64 - 1 = omega arith in
      ap (λ (n : ℕ). bit_at n k) all ∙ bit_at_ones 64 k (omega arith)
]

-- a byte of the first block is the byte at its place
block_byte : (bytes block : List ℕ) (k : ℕ) → block ≡ chunk 0 64 (take 64 bytes) → k < 64
    → get_or block k 0 ≡ get_or bytes k 0
block_byte bytes block k front within =
    let place : 0 + k ≡ k = omega arith in
    ap (λ (l : List ℕ). get_or l k 0) front
    ∙ (get_or-chunk 0 64 (take 64 bytes) k 0 within
    ∙ (ap (λ (n : ℕ). get_or (take 64 bytes) n 0) place ∙ get_or-take 64 bytes k 0 within))

-- the bytes of a block are digits as far as each one's bit says so
pub AreDigits-block : (count : ℕ) (bytes block : List ℕ) (ones zeros : ℕ) → 64 ≤ length bytes
    → block ≡ chunk 0 64 (take 64 bytes)
    → ((k : ℕ) → k < 64 → bit_at ones k ≡ cond (get_or block k 0 == 49) 1 0)
    → ((k : ℕ) → k < 64 → bit_at zeros k ≡ cond (get_or block k 0 == 48) 1 0)
    → count ≤ 64 → ((k : ℕ) → k < count → bit_at (bit_or ones zeros) k ≡ 1)
    → AreDigits count bytes ones
AreDigits-block count bytes block ones zeros enough front is_one is_zero few some = record {
  enough = omega arith;
  digits = λ k before.
      let within : k < 64 = omega arith in
      let at : get_or block k 0 ≡ get_or bytes k 0 = block_byte bytes block k front within in
      sym at ∙ digit_is (get_or block k 0) (bit_at ones k) (bit_at zeros k) (is_one k within)
      (is_zero k within) (sym (bit_at_or ones zeros k) ∙ some k before);
}

-- the bits after those of a word fit into as many places as both take, and these into 64
pub fits-behind : (word place bits count : ℕ) → place + count ≤ 64 → word < 2 ^ place
    → bits < 2 ^ count → (bits * 2 ^ place + word < 2 ^ (place + count))
    × (2 ^ (place + count) ≤ 2 ^ 64)
fits-behind word place bits count room small few = (
  grind (arith, nat_tests, common_steps, mul-le-mul_right, pow-add),
  pow-le-pow_right (omega arith) room,
)

-- the first of some digits are read as their number without the bits of the others
AreSomeRead-digits : (run most count : ℕ) (bytes : List ℕ) (number : ℕ) → 0 < count
    → count ≤ most → count ≤ run → count ≤ 64 → AreDigits run bytes number
    → AreSomeRead most bytes count (bit_and number ((2 ^ 64 - 1) / 2 ^ (64 - count)))
    (drop count bytes)
AreSomeRead-digits run most count bytes number some few within room are =
    let left : 64 - (64 - count) ≡ count = omega arith in
    let mask : (2 ^ 64 - 1) / 2 ^ (64 - count) ≡ 2 ^ count - 1 =
    ones_shr 64 (64 - count) (omega arith) ∙ ap (λ (n : ℕ). 2 ^ n - 1) left in
    let enough = are.enough in
    rw mask (record {
      some = some;
      few = few;
      read = AreBitsRead-digits count bytes (bit_and number (2 ^ count - 1)) (record {
        enough = omega arith;
        digits = λ k before. are.digits k (omega arith)
            ∙ ap (λ (n : ℕ). 48 + n) (sym (bit_at-low number count k before));
      });
      below = mask_lt number count;
    })

-- the first of some digits are read so after a whitespace byte too, if there is one
pub AreSomeRead-line : (run most count : ℕ) (bytes line : List ℕ) (number : ℕ)
    → line ≡ behind_space bytes → 0 < count → count ≤ most → count ≤ run → count ≤ 64
    → AreDigits run line number
    → AreSomeRead most bytes count (bit_and number ((2 ^ 64 - 1) / 2 ^ (64 - count)))
    (drop count line)
AreSomeRead-line run most count bytes line number is some few within room are =
    let word : ℕ = bit_and number ((2 ^ 64 - 1) / 2 ^ (64 - count)) in
    AreSomeRead-behind most run count word number bytes (drop count line) (omega arith)
    (subst (λ (l : List ℕ). AreDigits run l number) is are)
    (subst (λ (l : List ℕ). AreSomeRead most l count word (drop count line)) is
    (AreSomeRead-digits run most count line number some few within room are))
