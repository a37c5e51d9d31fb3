-- Each step of the filling, by the lemma of that step.
use Rattle.std.proofs.Common.{◌∙◌, refl, sym, arith}
use Rattle.bits.proofs.FillLemmas.{filling_none, filling_kept, filling_set, filling_all}
use Rattle.bits.proofs.FillLemmas.{other_value, same_value}
use Rattle.bits.proofs.bitmap.Bitmap.fill.Goals as goal
use Rattle.bits.proofs.bitmap.Bitmap.fill.Goals.{then-get-black, else-get-black}

pub rows-init : goal.rows-init
rows-init c = filling_none _ c.holds_rect-holds.ensures.bitmap _ _ _ _

pub columns-preserved : goal.columns-preserved
columns-preserved c =
    elim c.if-get-black.branch [
      | then-get-black w ↦ rw (w.self-is, w.changed-is)
          (filling_set _ _ _ _ _ _ _ _ _ c.columns.invariant _ _ (omega arith) (omega arith)
          (omega arith) refl
          (λ e. other_value _ _ w.if-get-black.true (c.get.ensures ∙ e))
          w.set.ensures.written)
      | else-get-black w ↦ rw (w.self-is, w.changed-is)
          (filling_kept _ _ _ _ _ _ _ _ _ c.columns.invariant (omega arith)
          (sym c.get.ensures ∙ same_value _ _ w.if-get-black.false))
    ]

pub returns-clause-filled : goal.returns-clause-filled
returns-clause-filled c = grind (arith, filling_all)
