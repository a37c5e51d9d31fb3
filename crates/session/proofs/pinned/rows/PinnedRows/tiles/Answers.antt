-- What was read knows its tiles.
use Rattle.copies.proofs.BandCopies.{tiles_copied}
use Rattle.session.proofs.pinned.rows.PinnedRows.tiles.Goals as goal

pub returns : goal.returns
returns g c =
    rw (← c.self.view_is) (let copying = c.self.invariant.copying in
    tiles_copied c.deref.result.now.bitmap _ c.deref.result.now.unread _ _ copying.of_map.bitmap
    (rw (c.deref.ensures) copying.read) c.tiles.ensures.tiled c.tiles.ensures.unread)
