-- The cells of the lines are no nearer than their rectangle.
use Rattle.std.proofs.Common.{◌≤◌, arith}
use Rattle.std.proofs.lemmas.Bool.Decides.{nat_tests}
use Rattle.std.proofs.lemmas.Grind.{common_steps}
use Rattle.clearance.proofs.LineWordLemmas.{AreLinesFar-beyond}
use Rattle.clearance.proofs.first_line.FirstLineSeeker.is_far.Goals as goal

pub returns : goal.returns
returns g c = λ yes a b beyond.
    let self = c.args.self.now in
    let low : self.limit ≤ c.args.dist = grind (arith, nat_tests, common_steps) in
    AreLinesFar-beyond g.M.Metric.distance g.met.M.Metric.grows g.met.M.Metric.stays_nearer self.lines
    self.rect self.start self.end self.limit c.args.dist c.args._x c.args._gap a b self.shape low
    beyond
