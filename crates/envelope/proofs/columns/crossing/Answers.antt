-- One cell after the last at which the left column isn't worse; the first cell where there is none.
use Rattle.envelope.proofs.Crossings.{crossing_at}
use Rattle.envelope.proofs.columns.crossing.Goals as goal

pub returns : goal.returns
returns g c =
    crossing_at g.M.Metric.distance c.args.left c.args.left_gap c.args.right c.args.right_gap
    c.last_not_worse.result g.met.M.Metric.stays_nearer c.requires c.last_not_worse.ensures
