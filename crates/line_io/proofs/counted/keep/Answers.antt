-- What was kept so far, and the next bytes, are what is kept.
use Rattle.std.proofs.Common.{arith}
use Rattle.std.proofs.lemmas.Grind.{common_steps}
use Rattle.line_io.proofs.counted.keep.Goals as goal

pub slice_bounds-block-end-in-takes : goal.slice_bounds-block-end-in-takes
slice_bounds-block-end-in-takes g c = grind (arith, common_steps)

pub slice_bounds-extend_from_slice-end : goal.slice_bounds-extend_from_slice-end
slice_bounds-extend_from_slice-end g c = grind (arith, common_steps)

pub takes-smaller : goal.takes-smaller
takes-smaller g c = grind (arith, common_steps)

pub takes-preserved : goal.takes-preserved
takes-preserved g c = grind (arith, common_steps)
