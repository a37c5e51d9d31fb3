-- Each step of the stamping, by the lemma of that step.
use Rattle.std.proofs.Common.{◌∙◌, sym, arith}
use Rattle.bits.proofs.FillLemmas.{filling_none, filling_kept, filling_set, other_value, same_value}
use Rattle.bits.proofs.bitmap.Bitmap.stamp.Goals as goal
use Rattle.bits.proofs.bitmap.Bitmap.stamp.Goals.{then-get-black, else-get-black}

pub rows-init : goal.rows-init
rows-init c = filling_none _ c.width-width.ensures.bitmap _ _ _ _

pub columns-preserved : goal.columns-preserved
columns-preserved c =
    elim c.if-get-black.branch [
      | then-get-black w ↦ rw (w.self-is, w.changed-is)
          (filling_set _ _ _ _ _ _ _ _ _ c.columns.invariant _ _ (omega arith) (omega arith)
          (omega arith) c.get-black.ensures
          (λ e. other_value _ _ w.if-get-black.true (c.get.ensures ∙ e))
          w.set.ensures.written)
      | else-get-black w ↦ rw (w.self-is, w.changed-is)
          (filling_kept _ _ _ _ _ _ _ _ _ c.columns.invariant (omega arith)
          (sym c.get.ensures ∙ (same_value _ _ w.if-get-black.false ∙ c.get-black.ensures)))
    ]
