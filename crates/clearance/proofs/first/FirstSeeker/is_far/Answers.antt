-- What is found comes before them, or they are as far as the limit.
use Rattle.std.proofs.Common.{arith}
use Rattle.clearance.proofs.SeekerFirsts.{IsBehind-comes}
use Rattle.clearance.proofs.first.FirstSeeker.is_far.Goals as goal

pub returns : goal.returns
returns g c = λ yes a b beyond.
    let self = c.args.self.now in
    let near = c.if-dist-self-2.false in
    let low = c.if-dist-self.false in
    IsBehind-comes g.M.Metric.distance g.met.M.Metric.grows g.met.M.Metric.stays_nearer self.rect
    self.limit self.best c.args.dist c.args.x c.args.gap a b self.one_cell (omega arith)
    (c.comes_first.ensures yes) beyond
