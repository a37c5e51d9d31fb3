-- Decimal digits as bytes: this project's own rule.
use Rattle.std.specs.Prelude.{ℕ, ◌+◌, ◌-◌, ◌*◌, ◌/◌, ◌%◌, ◌&&◌, nat_le, Bool, List, [], ◌∷◌}

-- the byte is a digit, from 0 to 9
abbrev pub is_digit : ℕ → Bool
is_digit byte = nat_le 48 byte && nat_le byte 57

-- the value of these digits after digits with the value so far
unfoldable pub value_from : ℕ → List ℕ → ℕ
value_from so_far [] = so_far
value_from so_far (digit ∷ digits) = value_from (10 * so_far + (digit - 48)) digits

-- a number below 100 is written as its tens and its ones
abbrev pub two_digits : ℕ → List ℕ
two_digits n = (48 + n / 10) ∷ (48 + n % 10) ∷ []
