-- The lines at the first row are known.
use Rattle.std.proofs.Common.{arith}
use Rattle.std.proofs.lemmas.Grind.{common_steps}
use Rattle.column.proofs.carried.Carried.of.Goals as goal

pub seek_bands-requires : goal.seek_bands-requires
seek_bands-requires c = grind (arith, common_steps)

pub returns : goal.returns
returns c = grind (arith, common_steps)
