-- The number chosen at each place.
use Rattle.std.proofs.Common.{eqb}
use Rattle.metric.proofs.LaneLemmas.{chosen_at}
use Rattle.envelope.proofs.lanes.chosen.Goals as goal

pub returns : goal.returns
returns c i within =
    chosen_at eqb c.args.a c.args.b c.args.equal c.args.other i c.fits-a.0 c.fits-b.0 c.fits-equal.0
    c.fits-other.0 within
