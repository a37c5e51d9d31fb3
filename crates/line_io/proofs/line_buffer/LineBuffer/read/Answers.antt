-- Parts that were read one after another are a line, or a part of one.
use Rattle.std.proofs.Common.{arith}
use Rattle.std.proofs.lemmas.Grind.{common_steps}
use Rattle.line_io.proofs.line_buffer.LineBuffer.read.Goals as goal

pub returns-then-branch-clause-line : goal.returns-then-branch-clause-line
returns-then-branch-clause-line g c = grind (arith, common_steps)

pub returns-then-branch-clause-bytes : goal.returns-then-branch-clause-bytes
returns-then-branch-clause-bytes g c = grind (arith, common_steps)

pub parts-smaller : goal.parts-smaller
parts-smaller g c = grind (arith, common_steps)

pub parts-preserved : goal.parts-preserved
parts-preserved g c = grind (arith, common_steps)
