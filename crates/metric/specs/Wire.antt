-- What a contract sees of a stream that is read and written: this project's own rule.
use Rattle.std.specs.Prelude.{ℕ, List, Option, None}

-- a stream's wire: the bytes left to read, the bytes written, and how many reads and writes failed
pub record Wire : Type 0 where
  pub rest : Option (List ℕ)
  pub held : Option (List ℕ)
  pub failed_reads : ℕ
  pub failed_writes : ℕ

-- the wire of a stream that shows no bytes: this many reads and this many writes have failed
abbrev pub silent : ℕ → ℕ → Wire
silent reads writes =
    record { rest = None; held = None; failed_reads = reads; failed_writes = writes }
