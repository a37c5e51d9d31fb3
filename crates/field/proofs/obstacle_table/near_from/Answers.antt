-- The obstacle is seen from the cell.
use Rattle.std.proofs.Common.{arith}
use Rattle.std.proofs.lemmas.Grind.{common_steps}
use Rattle.field.proofs.obstacle_table.near_from.Goals as goal

pub returns : goal.returns
returns g c = grind (arith, common_steps)
