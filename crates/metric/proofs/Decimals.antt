-- A decimal number is written two digits at a time.
use Rattle.std.proofs.Common.{◌≡◌, ℕ, ◌+◌, ◌/◌, ◌%◌, ◌^◌, ◌<◌, ◌≤◌, ◌++◌, length, arith, ap, ◌∙◌}
use Rattle.std.proofs.Common.{append_assoc, length-append, lit<, List, [], ◌∷◌, ◌-◌, ◌*◌, refl}
use Rattle.std.specs.Fmt.{decimal}
use Rattle.std.proofs.lemmas.Fmt.{decimal_digit, decimal_step, length-decimal-le}
use Rattle.metric.specs.Digits.{two_digits, value_from}

-- the decimal text of a number from 10 to 99 is its two digits
pub decimal_two : (n : ℕ) → 10 ≤ n → n < 100 → decimal n ≡ two_digits n
decimal_two n large small =
    rw (decimal_step n large (omega arith), decimal_digit (n / 10) (omega arith))

-- a number of three digits or more is written as its hundreds and then its last two digits
pub decimal_hundreds : (n : ℕ) → 100 ≤ n → n < 2 ^ 64
    → decimal n ≡ decimal (n / 100) ++ two_digits (n % 100)
decimal_hundreds n large fits =
    let hundreds : n / 10 / 10 ≡ n / 100 = omega arith in
    let tens : n / 10 % 10 ≡ n % 100 / 10 = omega arith in
    let ones : n % 10 ≡ n % 100 % 10 = omega arith in
    rw (
      decimal_step n (omega arith) fits,
      decimal_step (n / 10) (omega arith) (omega arith),
      append_assoc,
      hundreds,
      tens,
      ← ones,
    )

-- a number of five digits or more is written as its ten thousands and then its last four digits,
-- two by two
pub decimal_ten_thousands : (n : ℕ) → 10000 ≤ n → n < 2 ^ 64
    → decimal n ≡ (decimal (n / 10000) ++ two_digits (n % 10000 / 100)) ++ two_digits (n % 100)
decimal_ten_thousands n large fits =
    let above : n / 100 / 100 ≡ n / 10000 = omega arith in
    let middle : n / 100 % 100 ≡ n % 10000 / 100 = omega arith in
    rw (
      decimal_hundreds n (omega arith) fits,
      decimal_hundreds (n / 100) (omega arith) (omega arith),
      above,
      middle,
    )

-- a number from 10 to 99 has two digits
pub length-decimal_two : (n : ℕ) → 10 ≤ n → n < 100 → length (decimal n) ≡ 2
length-decimal_two n large small = ap length (decimal_two n large small)

-- a number of three digits or more has two digits more than its hundreds
pub length-decimal_hundreds : (n : ℕ) → 100 ≤ n → n < 2 ^ 64
    → length (decimal n) ≡ length (decimal (n / 100)) + 2
length-decimal_hundreds n large fits =
    ap length (decimal_hundreds n large fits)
    ∙ length-append (decimal (n / 100)) (two_digits (n % 100))

-- a number of five digits or more has four digits more than its ten thousands
pub length-decimal_ten_thousands : (n : ℕ) → 10000 ≤ n → n < 2 ^ 64
    → length (decimal n) ≡ length (decimal (n / 10000)) + 4
length-decimal_ten_thousands n large fits =
    let above : n / 100 / 100 ≡ n / 10000 = omega arith in
    let last : length (decimal n) ≡ length (decimal (n / 100)) + 2 =
    length-decimal_hundreds n (omega arith) fits in
    let middle : length (decimal (n / 100)) ≡ length (decimal (n / 100 / 100)) + 2 =
    length-decimal_hundreds (n / 100) (omega arith) (omega arith) in
    omega (arith, last, rw above at middle)

-- a number of 32 bits has ten digits at most
pub length-decimal_32 : (n : ℕ) → n < 2 ^ 32 → length (decimal n) ≤ 10
length-decimal_32 n fits = length-decimal-le 10 n (lit< tt) (omega arith) (omega arith)

-- a number of 16 bits has five digits at most
pub length-decimal_16 : (n : ℕ) → n < 2 ^ 16 → length (decimal n) ≤ 5
length-decimal_16 n fits = length-decimal-le 5 n (lit< tt) (omega arith) (omega arith)

-- a side of a bitmap has four digits at most
pub length-decimal_side : (n : ℕ) → n ≤ 4096 → length (decimal n) ≤ 4
length-decimal_side n few = length-decimal-le 4 n (lit< tt) (omega arith) (omega arith)

-- a further digit makes the value ten times as large, and adds the digit
pub value_from-push : (so_far : ℕ) (digits : List ℕ) (digit : ℕ)
    → value_from so_far (digits ++ digit ∷ []) ≡ 10 * value_from so_far digits + (digit - 48)
unfolding value_from
value_from-push so_far [] digit = refl
value_from-push so_far (first ∷ others) digit =
    value_from-push (10 * so_far + (first - 48)) others digit
