-- All bytes were read but those that are left, and none is kept.
use Rattle.std.proofs.Common.{◌≡◌, ◌+◌, ℕ, List, length}
use Rattle.line_io.specs.Wire.{HasRead}
use Rattle.line_io.proofs.counted.skip.Given as goal

-- what was read and what is left are as many as are counted
abbrev pub invariant-passes : goal.invariant-passes
invariant-passes g l = record {
  bytes : List ℕ;
  read : HasRead 0 (g.S.Stream.wire l.fn.stream) bytes (g.S.Stream.wire l.stream);
  as_many : length bytes + l.left ≡ l.fn.count;
}

-- each block has a byte at least
abbrev pub decreases-passes : goal.decreases-passes
decreases-passes g l = l.left
