-- The tiles that are taken are those of the arena, by position.
use Rattle.std.proofs.Common.{arith}
use Rattle.std.proofs.lemmas.Grind.{common_steps}
use Rattle.grid.proofs.opening.take_tiles.Goals as goal

pub returns-in_default-clause-tiles : goal.returns-in_default-clause-tiles
returns-in_default-clause-tiles c = grind (arith, common_steps)

pub positions-preserved : goal.positions-preserved
positions-preserved c = grind (arith, common_steps)

pub returns-clause-tiles : goal.returns-clause-tiles
returns-clause-tiles c = grind (arith, common_steps)
