-- The words of a row stand in one piece.
use Rattle.bits.proofs.StoredLemmas.{IsRowOf_read}
use Rattle.bits.proofs.bitmap.Bitmap.row_words.Goals as goal

pub returns : goal.returns
returns c =
    rw (← c.self.view_is, c.deref.ensures.value) (IsRowOf_read _ _ _ c.self.invariant.stored
    c.args.y _ _ (rw (← c.self.view_is) at c.requires) c.from.ensures
    (rw (← c.self.view_is) at c.words_across-across.ensures.words))
