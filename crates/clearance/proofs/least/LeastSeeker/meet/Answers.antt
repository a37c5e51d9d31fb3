-- The word's nearest obstacle lowers the least.
use Rattle.std.proofs.Common.{refl, arith}
use Rattle.clearance.proofs.Searches.{IsFar-lower}
use Rattle.clearance.proofs.SeekerSteps.{IsPartOf-same}
use Rattle.clearance.proofs.SeekerWords.{IsLeastKept-word, word_far}
use Rattle.clearance.proofs.least.LeastSeeker.meet.Goals as goal

pub returns-clause-met : goal.returns-clause-met
returns-clause-met g c =
    word_far g.M.Metric.distance g.met.M.Metric.stays_nearer c.args.self.now.rect c.args.tile
    c.args.y c.args.word c.columns_outside-columns.result c.args.gap c.min-self.result
    c.requires.tile c.requires.row c.columns_outside-columns.ensures.apart
    (rw c.requires.gap.counted at c.requires.gap.gap_is)
    (omega arith) (omega arith)

pub returns-clause-onward : goal.returns-clause-onward
returns-clause-onward g c = λ cells obstacles. record {
  rect = IsPartOf-same c.args.self.now.rect;
  counted = λ rect is. is;
  start = refl;
  settled = λ a b far. IsFar-lower _ _ _ (omega arith) far;
  kept = λ first kept. IsLeastKept-word g.M.Metric.distance cells first.rect first.least
      c.args.self.now.rect c.args.self.now.least c.args.tile c.args.y c.args.word
      c.columns_outside-columns.result c.args.gap c.min-self.result obstacles
      c.columns_outside-columns.ensures.column
      (rw c.requires.gap.counted at c.requires.gap.gap_is) (omega arith) kept;
}
