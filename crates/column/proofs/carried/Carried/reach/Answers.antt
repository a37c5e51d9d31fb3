-- The lines of the next band are known.
use Rattle.std.proofs.Common.{arith}
use Rattle.std.proofs.lemmas.Grind.{common_steps}
use Rattle.column.proofs.carried.Carried.reach.Goals as goal

pub fill_band-requires-clause-room : goal.fill_band-requires-clause-room
fill_band-requires-clause-room c = grind (arith, common_steps)

pub fill_band-requires-clause-behind : goal.fill_band-requires-clause-behind
fill_band-requires-clause-behind c = grind (arith, common_steps)

pub returns : goal.returns
returns c = grind (arith, common_steps)
