-- The four digits of a number below 10,000 are those of its decimal.
use Rattle.std.proofs.Common.{◌≡◌, ℕ, ◌+◌, ◌/◌, ◌%◌, ◌≤◌, ◌<◌, [], ◌∷◌, refl, arith, lit≤}
use Rattle.std.proofs.lemmas.Fmt.{decimal_digit}
use Rattle.metric.proofs.Decimals.{decimal_two, decimal_hundreds}
use Rattle.printing.specs.Putting.{IsQuad}

-- these four bytes are the digits of a number below 10,000, from its thousands to its ones
pub record AreDigits (n thousands hundreds tens ones : ℕ) : Type 0 where
  pub thousands_is : thousands ≡ 48 + n / 100 / 10
  pub hundreds_is : hundreds ≡ 48 + n / 100 % 10
  pub tens_is : tens ≡ 48 + n % 100 / 10
  pub ones_is : ones ≡ 48 + n % 100 % 10

-- the digits of a number below 10 are its ones alone
pub IsQuad-one : (n thousands hundreds tens ones : ℕ) → n < 10
    → AreDigits n thousands hundreds tens ones
    → IsQuad n (record {
      short = ones ∷ 0 ∷ 0 ∷ 0 ∷ [];
      padded = thousands ∷ hundreds ∷ tens ∷ ones ∷ [];
      count = 1;
    })
IsQuad-one n thousands hundreds tens ones small are =
    let same : n % 100 % 10 ≡ n = omega arith in
    record {
      few = lit≤ tt;
      short = rw (are.ones_is, same, decimal_digit n small) refl;
      padded = rw (are.thousands_is, are.hundreds_is, are.tens_is, are.ones_is) refl;
    }

-- the digits of a number from 10 to 99 are its tens and ones
pub IsQuad-two : (n thousands hundreds tens ones : ℕ) → 10 ≤ n → n < 100
    → AreDigits n thousands hundreds tens ones
    → IsQuad n (record {
      short = tens ∷ ones ∷ 0 ∷ 0 ∷ [];
      padded = thousands ∷ hundreds ∷ tens ∷ ones ∷ [];
      count = 2;
    })
IsQuad-two n thousands hundreds tens ones large small are =
    let same : n % 100 ≡ n = omega arith in
    record {
      few = lit≤ tt;
      short = rw (are.tens_is, are.ones_is, same, decimal_two n large small) refl;
      padded = rw (are.thousands_is, are.hundreds_is, are.tens_is, are.ones_is) refl;
    }

-- the digits of a number from 100 to 999 are its hundreds, tens and ones
pub IsQuad-three : (n thousands hundreds tens ones : ℕ) → 100 ≤ n → n < 1000
    → AreDigits n thousands hundreds tens ones
    → IsQuad n (record {
      short = hundreds ∷ tens ∷ ones ∷ 0 ∷ [];
      padded = thousands ∷ hundreds ∷ tens ∷ ones ∷ [];
      count = 3;
    })
IsQuad-three n thousands hundreds tens ones large small are =
    let same : n / 100 % 10 ≡ n / 100 = omega arith in
    record {
      few = lit≤ tt;
      short = rw (
        decimal_hundreds n large (omega arith),
        decimal_digit (n / 100) (omega arith),
        are.hundreds_is,
        are.tens_is,
        are.ones_is,
        same,
      ) refl;
      padded = rw (are.thousands_is, are.hundreds_is, are.tens_is, are.ones_is) refl;
    }

-- the digits of a number from 1,000 to 9,999 are its thousands, hundreds, tens and ones
pub IsQuad-four : (n thousands hundreds tens ones : ℕ) → 1000 ≤ n → n < 10000
    → AreDigits n thousands hundreds tens ones
    → IsQuad n (record {
      short = thousands ∷ hundreds ∷ tens ∷ ones ∷ [];
      padded = thousands ∷ hundreds ∷ tens ∷ ones ∷ [];
      count = 4;
    })
IsQuad-four n thousands hundreds tens ones large small are = record {
  few = lit≤ tt;
  short = rw (
    decimal_hundreds n (omega arith) (omega arith),
    decimal_two (n / 100) (omega arith) (omega arith),
    are.thousands_is,
    are.hundreds_is,
    are.tens_is,
    are.ones_is,
  ) refl;
  padded = rw (are.thousands_is, are.hundreds_is, are.tens_is, are.ones_is) refl;
}
