-- What a contract sees of a stream in memory: this project's own rule.
use Rattle.std.specs.Prelude.{ℕ, List}

-- a stream in memory shows the bytes left to read or written, and how many calls have failed
pub record Told : Type 0 where
  pub bytes : List ℕ
  pub failed : ℕ

-- what a stream reads and what it writes are both shown
pub record BothTold : Type 0 where
  pub read : Told
  pub written : Told
