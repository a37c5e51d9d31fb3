-- The lesser number of each place.
use Rattle.std.proofs.Common.{◌∙◌, ltb, get_or}
use Rattle.metric.proofs.LaneLemmas.{chosen_at, lesser_by_test}
use Rattle.envelope.proofs.lanes.least.Goals as goal

pub returns : goal.returns
returns c i within =
    chosen_at ltb c.args.a c.args.b c.args.a c.args.b i c.fits-a.0 c.fits-b.0 c.fits-a.0 c.fits-b.0
    within
    ∙ lesser_by_test (get_or c.args.a i 0) (get_or c.args.b i 0)
