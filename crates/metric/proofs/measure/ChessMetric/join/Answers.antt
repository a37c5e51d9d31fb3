-- At each of the eight places the larger of the two numbers is chosen, which is the distance.
use Rattle.std.proofs.Common.{◌∙◌, ltb, rules}
use Rattle.metric.proofs.LaneLemmas.{chosen_at, larger_by_test}
use Rattle.metric.proofs.measure.ChessMetric.join.Goals as goal

pub returns : goal.returns
returns c i within =
    chosen_at ltb c.args.parts c.args.reach _ _ i c.fits-parts.0 c.fits-reach.0
    (search rules) (search rules) within
    ∙ search (rules, larger_by_test)
