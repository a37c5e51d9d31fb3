-- What was read knows its bands.
use Rattle.copies.proofs.BandCopies.{bands_copied}
use Rattle.session.proofs.pinned.rows.PinnedRows.bands.Goals as goal

pub returns : goal.returns
returns g c =
    rw (← c.self.view_is) (let copying = c.self.invariant.copying in
    bands_copied c.deref.result.now.bitmap _ c.deref.result.now.unread _ copying.of_map.bitmap
    (rw (c.deref.ensures) copying.read) c.bands.ensures.banded c.bands.ensures.unread)
