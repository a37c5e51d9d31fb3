-- Bytes put into a buffer one after another: this project's own rule.
use Rattle.std.specs.Prelude.{◌≡◌, ℕ, ◌+◌, ◌/◌, ◌%◌, ◌<◌, ◌≤◌, List, [], ◌∷◌, ◌++◌, length, take}
use Rattle.std.specs.Prelude.{slice_index_or}
use Rattle.std.specs.Fmt.{decimal}
use Rattle.metric.specs.Digits.{two_digits}
use Rattle.printing.specs.declared.quad.Quad.{Quad}

-- these bytes follow the first `at` of a buffer, up to `end`, and the first are as they were
pub record Puts (old : List ℕ) (at : ℕ) (bytes new : List ℕ) (end : ℕ) : Type 0 where
  pub end_is : end ≡ at + length bytes
  pub text : take end new ≡ take at old ++ bytes

-- a number below 10,000 in four digits, leading zeros included
abbrev pub four_digits : ℕ → List ℕ
four_digits n = two_digits (n / 100) ++ two_digits (n % 100)

-- the entry has this number's digits, below 10,000: without leading zeros in front, and with them
pub record IsQuad (n : ℕ) (quad : Quad) : Type 0 where
  pub few : quad.count ≤ 4
  pub short : take quad.count quad.short ≡ decimal n
  pub padded : quad.padded ≡ four_digits n

-- the entry of no number has no digits
abbrev pub no_quad : Quad
no_quad = record { short = []; padded = []; count = 0 }

-- the first entries are the digits of the first numbers, in order
abbrev pub AreQuads : ℕ → List Quad → Type 0
AreQuads count quads = (n : ℕ) → n < count → IsQuad n (slice_index_or quads n no_quad)

-- eight bytes start with a blank and this number; the last says how many bytes these are
pub record IsSpaced (n : ℕ) (word : List ℕ) : Type 0 where
  pub few : slice_index_or word 7 0 ≤ 8
  pub text : take (slice_index_or word 7 0) word ≡ 32 ∷ decimal n

-- the first entries are the first numbers, each after a blank, in order
abbrev pub AreSpaced : ℕ → List (List ℕ) → Type 0
AreSpaced count words = (n : ℕ) → n < count → IsSpaced n (slice_index_or words n [])
