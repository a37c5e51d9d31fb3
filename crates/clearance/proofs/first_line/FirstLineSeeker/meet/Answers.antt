-- The first line that has one of the word's obstacles near, or all that are left.
use Rattle.std.proofs.Common.{arith}
use Rattle.clearance.proofs.LineWordLemmas.{AreLinesFar-fewer, AreLinesFar-first}
use Rattle.clearance.proofs.LineWordLemmas.{AreLinesFar-same, IsLineKept-same}
use Rattle.clearance.proofs.LineWordLemmas.{IsLineKept-word}
use Rattle.clearance.proofs.first_line.FirstLineSeeker.meet.Goals as goal

pub returns-then-found-end-clause-met : goal.returns-then-found-end-clause-met
returns-then-found-end-clause-met g c = λ a b here.
    let self = c.args.self.now in
    AreLinesFar-fewer g.M.Metric.distance self.lines c.first_line-end.result self.end a b
    c.if-found-end.true
    (AreLinesFar-first g.M.Metric.distance self.lines self.end c.first_line-end.result c.args.tile
    c.args.y c.args.word c.first_line-end.ensures a b here)

pub returns-clause-met : goal.returns-clause-met
returns-clause-met g c = λ a b here.
    let self = c.args.self.now in
    AreLinesFar-same g.M.Metric.distance self.lines c.leave.result.lines c.first_line-end.result
    c.leave.result.end a b c.leave.ensures.lines c.leave.ensures.end
    (AreLinesFar-first g.M.Metric.distance self.lines self.end c.first_line-end.result c.args.tile
    c.args.y c.args.word c.first_line-end.ensures a b here)

pub returns-clause-onward : goal.returns-clause-onward
returns-clause-onward g c = λ cells obstacles.
    let self = c.args.self.now in
    let first = c.first_line-end.ensures in
    let fewer = c.if-found-end.false in
    record {
      rect = c.leave.ensures.rect;
      counted = λ rect is. is;
      start = c.leave.ensures.start;
      settled = λ a b far. AreLinesFar-same g.M.Metric.distance self.lines c.leave.result.lines
          c.first_line-end.result c.leave.result.end a b c.leave.ensures.lines c.leave.ensures.end
          (AreLinesFar-fewer g.M.Metric.distance self.lines self.end c.first_line-end.result a b
          first.within far);
      kept = λ root kept. IsLineKept-same g.M.Metric.distance cells root.lines root.end self.lines
          c.leave.result.lines c.first_line-end.result c.leave.result.end c.leave.ensures.lines
          c.leave.ensures.end
          (IsLineKept-word g.M.Metric.distance cells root.lines root.end self.lines self.end
          c.first_line-end.result c.args.tile c.args.y c.args.word obstacles (omega arith) first
          kept);
    }
