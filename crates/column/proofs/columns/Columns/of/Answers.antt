-- Before the first row nothing is read yet.
use Rattle.std.proofs.Common.{arith}
use Rattle.std.proofs.lemmas.Grind.{common_steps}
use Rattle.column.proofs.columns.Columns.of.Goals as goal

pub returns : goal.returns
returns c = grind (arith, common_steps)
