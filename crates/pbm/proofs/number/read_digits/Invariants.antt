-- What is left, after the value so far, is read as all of it would be.
use Rattle.std.proofs.Common.{◌≡◌, length}
use Rattle.pbm.specs.Faults.{digits}
use Rattle.pbm.proofs.number.read_digits.Given as goal

abbrev pub invariant-loop-byte : goal.invariant-loop-byte
invariant-loop-byte l = digits l.fn.value l.fn.bytes ≡ digits l.value l.rest

abbrev pub decreases-loop-byte : goal.decreases-loop-byte
decreases-loop-byte l = length l.rest
