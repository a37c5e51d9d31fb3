-- How a line is read from a stream, part by part, and why it isn't: this project's own rule.
use Rattle.std.specs.Prelude.{◌≡◌, ◌≢◌, Bool, false, if◌then◌else◌, ℕ, ◌<◌, ◌≤◌, ◌⊎◌, List, [], ◌∷◌}
use Rattle.std.specs.Prelude.{◌++◌, length, All}
use Rattle.metric.specs.Wire.{Wire}
use Rattle.line_io.specs.declared.end.End.{End}
use Rattle.line_io.specs.declared.end.End.TheVariants as ends
use Rattle.line_io.specs.Wire.{HasRead, IsReadOut}

-- a line of a stream has at most 16,384 bytes before its LF
pub record IsLine (line : List ℕ) : Type 0 where
  pub plain : All (λ byte. byte ≢ 10) line
  pub few : length line ≤ 16384

-- these are more bytes than a line may have, with no LF among them
pub record IsTooLong (bytes : List ℕ) : Type 0 where
  pub plain : All (λ byte. byte ≢ 10) bytes
  pub many : length bytes ≡ 16385

-- the input was cut off after these bytes: it ended, or a read failed
abbrev pub IsCutOff : End → Wire → List ℕ → Wire → Type 0
IsCutOff end old bytes new =
    ((end ≡ ends.EndOfInput) × HasRead 0 old bytes new × IsReadOut new.rest)
    ⊎ ((end ≡ ends.ReadFailed) × HasRead 1 old bytes new)

-- why a line wasn't read to its LF: these bytes are too many, or the input was cut off after them
abbrev pub IsLineStop : End → Wire → List ℕ → Wire → Type 0
IsLineStop end old bytes new =
    ((end ≡ ends.LineTooLong) × IsTooLong bytes × HasRead 0 old bytes new)
    ⊎ (IsLine bytes × IsCutOff end old bytes new)

-- what a line ends with, if it ends
abbrev pub line_end : Bool → List ℕ
line_end ends = if ends then 10 ∷ [] else []

-- these bytes were appended to those before, except an LF at their end
pub record IsKept (ends : Bool) (before bytes after : List ℕ) : Type 0 where
  pub part : List ℕ
  pub after_is : after ≡ before ++ part
  pub plain : All (λ byte. byte ≢ 10) part
  pub bytes_are : bytes ≡ part ++ line_end ends

-- a part of a line was read after these bytes and appended to them, except an LF that ends the line
pub record IsLinePart (ends : Bool) (before : List ℕ) (old : Wire) (after : List ℕ) (new : Wire) :
    Type 0 where
  pub part : List ℕ
  pub after_is : after ≡ before ++ part
  pub plain : All (λ byte. byte ≢ 10) part
  pub few : length (after ++ line_end ends) ≤ 16385
  pub more : ends ≡ false → 0 < length part
  pub read : HasRead 0 old (part ++ line_end ends) new
