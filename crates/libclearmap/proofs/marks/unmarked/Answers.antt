-- Each bit is turned.
use Rattle.libclearmap.proofs.Names.{arith, w64, bit_at_not}
use Rattle.libclearmap.proofs.marks.unmarked.Goals as goal

pub returns-clause-some : goal.returns-clause-some
returns-clause-some c tile within zero = grind (arith, bit_at_not w64 c.args.marks tile)
