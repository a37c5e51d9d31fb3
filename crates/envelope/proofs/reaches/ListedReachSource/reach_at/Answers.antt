-- Eight places from a multiple of eight on have one reach.
use Rattle.std.proofs.Common.{◌≡◌, ◌*◌, ◌+◌, ◌/◌, ◌∙◌, ap, arith}
use Rattle.envelope.proofs.reaches.ListedReachSource.reach_at.Goals as goal

pub returns-clause-each : goal.returns-clause-each
returns-clause-each g c i within =
    let place = 8 * c.args.k + i in
    let row : place / 8 ≡ c.args.k = omega arith in
    let at : 8 * c.from.result + i ≡ place = omega (arith, c.from.ensures) in
    c.load.ensures i within ∙ (rw at (c.requires.reaches.each place (omega arith)))
    ∙ ap g.M.Metric.reach_of row

pub returns-clause-few : goal.returns-clause-few
returns-clause-few g c i within =
    let few = c.requires.reaches.few (8 * c.from.result + i) (omega (arith, c.from.ensures)) in
    omega (arith, few, c.load.ensures i within)
