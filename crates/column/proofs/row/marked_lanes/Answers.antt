-- The entry of each place becomes the row where its bit is 1, and stays where it isn't.
use Rattle.std.proofs.Common.{◌∙◌, eqb, bit_and, replicate, refl}
use Rattle.std.specs.Simd.Lanes.{zip2}
use Rattle.metric.proofs.LaneLemmas.{chosen_at}
use Rattle.column.proofs.Marking.{lane_marked, places}
use Rattle.column.proofs.row.marked_lanes.Goals as goal

pub returns : goal.returns
returns c i within =
    chosen_at eqb (zip2 bit_and (replicate 8 c.args.bits) places) places
    (replicate 8 c.args.y) c.args.entries i refl refl refl c.fits-entries.0 within
    ∙ lane_marked c.args.bits c.args.y i c.args.entries within
