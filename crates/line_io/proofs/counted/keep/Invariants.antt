-- The buffer holds the bytes that were read.
use Rattle.std.proofs.Common.{◌≤◌, ◌-◌, length, vec_capacity}
use Rattle.line_io.specs.Wire.{HasRead}
use Rattle.line_io.proofs.counted.keep.Given as goal

-- all that was read is kept, and it isn't too much
abbrev pub invariant-takes : goal.invariant-takes
invariant-takes g l = record {
  read : HasRead 0 (g.S.Stream.wire l.fn.stream) l.bytes.items (g.S.Stream.wire l.stream);
  few : length l.bytes.items ≤ l.fn.count;
  room : l.fn.count ≤ vec_capacity l.bytes;
}

-- each block has a byte at least
abbrev pub decreases-takes : goal.decreases-takes
decreases-takes g l = l.fn.count - length l.bytes.items
