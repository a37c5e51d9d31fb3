-- Decimal numbers, a digit at a time.
use Rattle.metric.proofs.Decimals.{length-decimal_side, value_from-push}
use Rattle.std.proofs.Common.{◌≡◌, ℕ, ◌+◌, ◌/◌, ◌%◌, ◌^◌, ◌<◌, ◌≤◌, true, List, [], ◌∷◌, ◌++◌}
use Rattle.std.proofs.Common.{arith}
use Rattle.std.specs.Fmt.{decimal}
use Rattle.std.proofs.lemmas.Bool.{and_from}
use Rattle.std.proofs.lemmas.Bool.Decides.{nat_tests}
use Rattle.std.proofs.lemmas.Fmt.{decimal_by_steps}
use Rattle.std.proofs.lemmas.List.Folds.{list_all-append}
use Rattle.metric.specs.Digits.{is_digit, value_from}
use Rattle.pbm.specs.Image.{IsNumber}
use Rattle.std.proofs.lemmas.Grind.{common_steps}

-- a digit is a digit
is_digit-below_ten : (n : ℕ) → n < 10 → is_digit (48 + n) ≡ true
is_digit-below_ten n few = grind (arith, nat_tests)

-- one digit is a number
IsNumber-one : (n : ℕ) → n < 10 → IsNumber ((48 + n) ∷ []) n
unfolding value_from
IsNumber-one n few = grind (arith, nat_tests, common_steps)

-- a number and a digit are a number
IsNumber-more : (n : ℕ) (text : List ℕ) → 10 ≤ n → IsNumber text (n / 10)
    → IsNumber (text ++ ((48 + n % 10) ∷ [])) n
IsNumber-more n text large is =
    grind (
      arith,
      nat_tests,
      common_steps,
      and_from,
      is_digit-below_ten,
      list_all-append,
      value_from-push,
    )

-- the decimal text of a number is a number
pub IsNumber-decimal : (n : ℕ) → n < 2 ^ 64 → IsNumber (decimal n) n
IsNumber-decimal n fits =
    decimal_by_steps (λ m text. IsNumber text m) IsNumber-one IsNumber-more n fits

-- the numbers of a front have four digits at most
pub ruleset side_digits = (length-decimal_side)
