-- The nearest band above and the nearest below, if there is one.
use Rattle.std.proofs.Common.{inl, inr, arith}
use Rattle.clearance.proofs.SeekerSteps.{AreAsFarBands-nearest}
use Rattle.clearance.proofs.outwards.Bands.next.Goals as goal
use Rattle.clearance.proofs.outwards.Bands.next.Goals.{then-self-eq0, else-self-eq0}
use Rattle.clearance.proofs.outwards.Bands.next.Goals.{then-self-lt-WORD_CELLS}
use Rattle.clearance.proofs.outwards.Bands.next.Goals.{else-self-lt-WORD_CELLS}

pub returns-clause-gap : goal.returns-clause-gap
returns-clause-gap c =
    AreAsFarBands-nearest c.args.self c.args.rect c.args.y c.if-self-eq0.up
    c.if-self-lt-WORD_CELLS.down c.min-gap.result c.requires.top c.requires.bottom c.requires.above
    c.requires.below c.requires.few
    (elim c.if-self-eq0.branch [
      | then-self-eq0 w ↦ inl ((λ some. omega (arith, w.if-self-eq0.true)), w.up-is)
      | else-self-eq0 w ↦
          inr (rw w.up-is w.rows_apart-up.ensures.few, rw w.up-is w.rows_apart-up.ensures.apart)
    ])
    (elim c.if-self-lt-WORD_CELLS.branch [
      | then-self-lt-WORD_CELLS w ↦
          inr (
            rw w.down-is w.rows_apart-down.ensures.few,
            rw w.down-is w.rows_apart-down.ensures.apart,
          )
      | else-self-lt-WORD_CELLS w ↦
          inl ((λ some. omega (arith, w.if-self-lt-WORD_CELLS.false)), w.down-is)
    ])
    c.min-gap.ensures c.if-gap-eq-LAST_FRAMED.false
