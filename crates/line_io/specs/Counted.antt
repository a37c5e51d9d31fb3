-- How the bytes that a line counts are read: this project's own rule.
use Rattle.std.specs.Prelude.{◌≡◌, ℕ, ◌<◌, List, length, Result, Ok, Err, Vec}
use Rattle.metric.specs.Wire.{Wire}
use Rattle.line_io.specs.declared.end.End.{End}
use Rattle.line_io.specs.Lines.{IsCutOff}
use Rattle.line_io.specs.Wire.{HasRead}

-- the counted bytes are kept, if there was memory for them
abbrev pub AreKept : {A E : Type 0} → Result (Vec ℕ A) E → List ℕ → Type 0
AreKept (Err refused) bytes = Unit {0}
AreKept (Ok kept) bytes = kept.items ≡ bytes

-- as many bytes were read as are counted, and kept if there was memory for them
pub record HasCounted {A E : Type 0} (count : ℕ) (kept : Result (Vec ℕ A) E) (old new : Wire) :
    Type 0 where
  pub bytes : List ℕ
  pub as_many : length bytes ≡ count
  pub kept_are : AreKept kept bytes
  pub read : HasRead 0 old bytes new

-- this many bytes were read, at least one
pub record HasPassed (count : ℕ) (old new : Wire) : Type 0 where
  pub some : 0 < count
  pub bytes : List ℕ
  pub as_many : length bytes ≡ count
  pub read : HasRead 0 old bytes new

-- the input was cut off before this many bytes were read
pub record IsCutShort (count : ℕ) (end : End) (old new : Wire) : Type 0 where
  pub bytes : List ℕ
  pub few : length bytes < count
  pub cut : IsCutOff end old bytes new
