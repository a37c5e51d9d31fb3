-- Lines, and the bytes that they count: this project's own rule.
use Rattle.std.specs.Prelude.{◌≡◌, ◌≢◌, ◌<◌, ℕ, ◌⊎◌, List, ◌∷◌, ◌++◌, All, length}
use Rattle.std.specs.Str.Lines.{strip_carriage_return}

-- no line ends in these bytes
abbrev pub IsUnended : List ℕ → Type 0
IsUnended bytes = All (λ byte. byte ≢ 10) bytes

-- these bytes are a line with its LF, and as many bytes as the line counts without its CR
pub record IsCounted (counts : List ℕ → ℕ) (bytes : List ℕ) : Type 0 where
  pub line : List ℕ
  pub counted : List ℕ
  pub unended : IsUnended line
  pub count : length counted ≡ counts (strip_carriage_return line)
  pub bytes_are : bytes ≡ line ++ (10 ∷ counted)

-- these bytes are a line with its LF, and fewer bytes than it counts
pub record LacksBytes (counts : List ℕ → ℕ) (bytes : List ℕ) : Type 0 where
  pub line : List ℕ
  pub counted : List ℕ
  pub unended : IsUnended line
  pub few : length counted < counts (strip_carriage_return line)
  pub bytes_are : bytes ≡ line ++ (10 ∷ counted)

-- these bytes are less than a line with its LF and the bytes that it counts
abbrev pub IsLessThanCounted : (List ℕ → ℕ) → List ℕ → Type 0
IsLessThanCounted counts bytes = IsUnended bytes ⊎ LacksBytes counts bytes

-- these bytes are a line with its LF and the bytes that it counts, or less
abbrev pub IsAtMostCounted : (List ℕ → ℕ) → List ℕ → Type 0
IsAtMostCounted counts bytes = IsCounted counts bytes ⊎ IsLessThanCounted counts bytes
