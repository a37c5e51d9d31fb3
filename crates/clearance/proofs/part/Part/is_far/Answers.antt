-- Cells in these columns and rows are beyond their distance.
use Rattle.clearance.proofs.SeekerSteps.{IsBeyond-cell}
use Rattle.clearance.proofs.part.Part.is_far.Goals as goal

pub returns : goal.returns
returns g c = λ yes a b column row apart right away. c.is_far.ensures yes a b (rw c.of.ensures (
    IsBeyond-cell g.M.Metric.distance g.met.M.Metric.grows g.met.M.Metric.stays_nearer
    (g.S.Seeker.aim.from c.args.seeker.now) c.args.self.columns c.args.self.x c.args.gap a b column
    row apart right away))
