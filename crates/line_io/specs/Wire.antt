-- What reads and writes do to the wire of a stream: this project's own rule.
use Rattle.std.specs.Prelude.{◌≡◌, ℕ, ◌+◌, ◌<◌, ◌≤◌, List, [], length, take, Option, Some, None}
use Rattle.std.specs.Prelude.{Result, Ok, Err}
use Rattle.metric.specs.declared.stream.WriteFault.{WriteFault}
use Rattle.metric.specs.Wire.{Wire}
use Rattle.metric.specs.Stream.{Appends, AppendsFront, CanFail, Takes}

-- another failed read and another failed write can be counted
pub record CanGoOn (w : Wire) : Type 0 where
  pub reads : CanFail w.failed_reads
  pub writes : CanFail w.failed_writes

-- these bytes were read, this many reads failed, and nothing was written
pub record HasRead (faults : ℕ) (old : Wire) (bytes : List ℕ) (new : Wire) : Type 0 where
  pub taken : Takes old.rest bytes new.rest
  pub held : new.held ≡ old.held
  pub reads : new.failed_reads ≡ old.failed_reads + faults
  pub writes : new.failed_writes ≡ old.failed_writes

-- nothing is left to read, where the stream shows it
abbrev pub IsReadOut : Option (List ℕ) → Type 0
IsReadOut None = Unit {0}
IsReadOut (Some left) = left ≡ []

-- the first bytes of a block were read, at least one
pub record HasTaken (count : ℕ) (block : List ℕ) (old new : Wire) : Type 0 where
  pub some : 0 < count
  pub fits : count ≤ length block
  pub read : HasRead 0 old (take count block) new

-- this text was written, no write failed, and nothing was read
pub record HasWritten (old : Wire) (text : List ℕ) (new : Wire) : Type 0 where
  pub rest : new.rest ≡ old.rest
  pub appended : Appends old.held text new.held
  pub reads : new.failed_reads ≡ old.failed_reads
  pub writes : new.failed_writes ≡ old.failed_writes

-- a write failed after it had written a prefix of this text, and nothing was read
pub record HasNotWritten (old : Wire) (text : List ℕ) (new : Wire) : Type 0 where
  pub rest : new.rest ≡ old.rest
  pub front : AppendsFront old.held text new.held
  pub reads : new.failed_reads ≡ old.failed_reads
  pub writes : new.failed_writes ≡ old.failed_writes + 1

-- this text was written, or its write failed
abbrev pub HasPut : Result (Unit {0}) WriteFault → Wire → List ℕ → Wire → Type 0
HasPut (Ok done) old text new = HasWritten old text new
HasPut (Err fault) old text new = HasNotWritten old text new
