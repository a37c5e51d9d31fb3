-- The tiles of the band before this one are the version's, and the seat is as it was.
use Rattle.std.proofs.Common.{◌≡◌}
use Rattle.bits.specs.Cells.{IsBitmap}
use Rattle.copies.specs.Copies.{bitmap_seen}
use Rattle.copies.proofs.BandCopies.{IsBandRead}
use Rattle.copies.proofs.copy.VersionCopy.read.Given as goal

abbrev pub invariant-tiles : goal.invariant-tiles
invariant-tiles g l =
    record {
      seat : l.seat ≡ l.fn.seat;
      unread : l.self.unread ≡ l.fn.self.unread;
      bitmap_is : IsBitmap l.self.bitmap;
      read : IsBandRead l.fn.self.bitmap l.self.bitmap
          (bitmap_seen g.Id.StoreName.store l.fn.seat l.version) l.band l.index;
    }
