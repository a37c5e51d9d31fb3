-- Words in hexadecimal: this project's own rule.
use Rattle.std.specs.Prelude.{ℕ, zero, suc, ◌/◌, ◌%◌, List, [], ◌∷◌, ◌++◌, false}
use Rattle.std.specs.Fmt.{digit_glyph}

-- the last hexadecimal digits of a word, as many as asked for, in lower case
unfoldable pub hex_digits : ℕ → ℕ → List ℕ
hex_digits zero word = []
hex_digits (suc count) word = hex_digits count (word / 16) ++ digit_glyph false (word % 16) ∷ []
