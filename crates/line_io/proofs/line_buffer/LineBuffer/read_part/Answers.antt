-- The bytes that were taken are the next part of a line.
use Rattle.std.proofs.Common.{arith}
use Rattle.std.proofs.lemmas.Grind.{common_steps}
use Rattle.line_io.proofs.line_buffer.LineBuffer.read_part.Goals as goal

pub slice_bounds-block-end-2 : goal.slice_bounds-block-end-2
slice_bounds-block-end-2 g c = grind (arith, common_steps)

pub slice_bounds-keep-end : goal.slice_bounds-keep-end
slice_bounds-keep-end g c = grind (arith, common_steps)

pub keep-requires-clause-room : goal.keep-requires-clause-room
keep-requires-clause-room g c = grind (arith, common_steps)

pub keep-requires-clause-plain : goal.keep-requires-clause-plain
keep-requires-clause-plain g c = grind (arith, common_steps)

pub returns-clause-part : goal.returns-clause-part
returns-clause-part g c = grind (arith, common_steps)
