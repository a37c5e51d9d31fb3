-- The columns that are too far: those of the word, or those that were.
use Rattle.std.proofs.Common.{◌%◌, inl, inr, refl, arith}
use Rattle.clearance.proofs.Bits.{either_bit}
use Rattle.clearance.proofs.SeekerSteps.{IsBeyond-cell, row_gap-part}
use Rattle.clearance.proofs.SeekerWords.{lowest_first}
use Rattle.clearance.proofs.part.Part.meet_word.Goals as goal

pub returns-then-is_far-clause-met : goal.returns-then-is_far-clause-met
returns-then-is_far-clause-met g c = λ a b here.
    let place = here.1 in
    let same = here.0 in
    let grown = row_gap-part c.args.rect (g.S.Seeker.aim.from c.args.seeker.now) b
    c.requires.seen.within in
    let gap = c.requires.gap in
    c.if-is_far.ensures refl a b (rw c.of.ensures (
    IsBeyond-cell g.M.Metric.distance g.met.M.Metric.grows g.met.M.Metric.stays_nearer
    (g.S.Seeker.aim.from c.args.seeker.now) c.columns_outside-columns.result _ c.args.gap a b
    (omega arith) (omega arith)
    (rw c.rect.ensures.rect at (c.columns_outside-columns.ensures.apart a here.1 here.2))
    (lowest_first c.args.word c.args.self.tile c.lowest_bit.result a
    c.lowest_bit.ensures.none_below here.1 here.2) (omega arith)))

pub returns-then-is_far-clause-columns : goal.returns-then-is_far-clause-columns
returns-then-is_far-clause-columns g c = λ a b row place bit away.
    let grown = row_gap-part c.args.rect (g.S.Seeker.aim.from c.args.seeker.now) b
    c.requires.seen.within in
    elim (either_bit c.args.far.now c.args.word (a % 64) bit) [
      | inl before ↦ inl before
      | inr new ↦ inr (c.if-is_far.ensures refl a b (rw c.of.ensures (
          IsBeyond-cell g.M.Metric.distance g.met.M.Metric.grows g.met.M.Metric.stays_nearer
          (g.S.Seeker.aim.from c.args.seeker.now) c.columns_outside-columns.result _ c.args.gap a b
          (omega arith) row
          (rw c.rect.ensures.rect at (c.columns_outside-columns.ensures.apart a place new))
          (lowest_first c.args.word c.args.self.tile c.lowest_bit.result a
          c.lowest_bit.ensures.none_below place new) (omega arith))))
    ]
