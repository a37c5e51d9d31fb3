-- What is left, in a comment or not, is read as all of it would be.
use Rattle.std.proofs.Common.{◌≡◌, false, length}
use Rattle.pbm.specs.Faults.{filling}
use Rattle.pbm.proofs.gap.after_filling.Given as goal

abbrev pub invariant-filling : goal.invariant-filling
invariant-filling l = filling false l.fn.bytes ≡ filling l.in_comment l.rest

abbrev pub decreases-filling : goal.decreases-filling
decreases-filling l = length l.rest
