-- The block's bytes stand after those that were unread.
use Rattle.std.proofs.Common.{arith}
use Rattle.std.proofs.lemmas.Grind.{common_steps}
use Rattle.pbm.proofs.window.Window.read_block.Goals as goal

pub returns-clause-more : goal.returns-clause-more
returns-clause-more g c = grind (arith, common_steps)
