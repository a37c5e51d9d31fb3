-- The line so far stands in the buffer, and it has no LF.
use Rattle.std.proofs.Common.{◌≢◌, ◌≤◌, ◌-◌, length, All}
use Rattle.line_io.specs.Wire.{HasRead}
use Rattle.line_io.proofs.line_buffer.LineBuffer.read.Given as goal

-- the parts that were read stand in the buffer, and there is no LF among them
abbrev pub invariant-parts : goal.invariant-parts
invariant-parts g l = record {
  read : HasRead 0 (g.S.Stream.wire l.fn.stream) l.self (g.S.Stream.wire l.stream);
  plain : All (λ byte. byte ≢ 10) l.self;
  few : length l.self ≤ 16385;
}

-- each part has a byte at least
abbrev pub decreases-parts : goal.decreases-parts
decreases-parts g l = 16385 - length l.self
