-- The next word is that of the next number.
use Rattle.std.proofs.Common.{arith}
use Rattle.std.proofs.lemmas.Grind.{common_steps}
use Rattle.printing.proofs.quad.spaced.Goals as goal

pub numbers-preserved : goal.numbers-preserved
numbers-preserved c = grind (arith, common_steps)
