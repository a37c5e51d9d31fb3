-- A number of five digits or more is its ten-thousands and then twice two digits, and takes the
-- room of all of them.
use Rattle.std.proofs.Common.{◌≡◌, ◌≤◌, ◌<◌, ◌^◌, ◌/◌, ◌%◌, ◌++◌, ℕ, List, arith, rules}
use Rattle.std.proofs.Common.{append_assoc}
use Rattle.std.specs.Fmt.{decimal}
use Rattle.metric.specs.Digits.{two_digits}
use Rattle.metric.proofs.Decimals.{decimal_ten_thousands, length-decimal_ten_thousands}
use Rattle.metric.proofs.decimal.+push_decimal.Goals as goal

-- a number's ten thousands, and then its last four digits, two by two, are appended
appends_all : (n : ℕ) (before first second after : List ℕ) → 10000 ≤ n → n < 2 ^ 64
    → first ≡ before ++ decimal (n / 10000) → second ≡ first ++ two_digits (n % 10000 / 100)
    → after ≡ second ++ two_digits (n % 100) → after ≡ before ++ decimal n
appends_all n before first second after large fits first_is second_is after_is =
    rw (
      decimal_ten_thousands n large fits,
      ← append_assoc,
      ← append_assoc,
      ← first_is,
      ← second_is,
    ) after_is

pub push_decimal-requires : goal.push_decimal-requires
push_decimal-requires t c =
    let digits = length-decimal_ten_thousands c.args.number (omega arith) (omega arith) in
    (omega arith, omega arith)

pub push_two-requires : goal.push_two-requires
push_two-requires t c =
    let digits = length-decimal_ten_thousands c.args.number (omega arith) (omega arith) in
    record { short = omega arith; space = omega arith }

pub push_two-requires-2 : goal.push_two-requires-2
push_two-requires-2 t c =
    let digits = length-decimal_ten_thousands c.args.number (omega arith) (omega arith) in
    record { short = omega arith; space = omega arith }

pub returns-clause-text : goal.returns-clause-text
returns-clause-text t c =
    appends_all c.args.number _ _ c.push_two.new.buffer.items _ (omega arith) (omega arith)
    c.push_decimal.ensures.text (search rules) (search rules)

pub returns-clause-length : goal.returns-clause-length
returns-clause-length t c =
    let digits = length-decimal_ten_thousands c.args.number (omega arith) (omega arith) in
    omega arith
