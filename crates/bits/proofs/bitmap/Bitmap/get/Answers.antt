-- The bit that is read is the cell's.
use Rattle.bits.proofs.StoredLemmas.{has_read}
use Rattle.bits.proofs.bitmap.Bitmap.get.Goals as goal

pub returns : goal.returns
returns c =
    rw (← c.self.view_is) (has_read _ _ _ c.self.invariant.stored c.args.cell.x c.args.cell.y _ _ _
    _ (rw (← c.self.view_is) at c.requires)
    (rw (← c.self.view_is) at c.place_of-index.ensures.index)
    c.place_of-index.ensures.place c.index.ensures c.has_bit.ensures)
