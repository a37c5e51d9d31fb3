-- The rows so far were taken into the bitmap, and no read has failed.
use Rattle.std.proofs.Common.{◌≡◌}
use Rattle.pbm.specs.Windows.{Follows, IsOpen, unread}
use Rattle.pbm.proofs.RowReads.{IsRawTo}
use Rattle.pbm.proofs.source.take_raw.Given as goal

abbrev pub invariant-rows : goal.invariant-rows
invariant-rows g l = record {
  open_still : IsOpen l.window (g.R.Source.rest l.reader);
  taken : Follows (g.R.Source.rest l.fn.reader) (unread l.fn.window) (g.R.Source.rest l.reader)
      (unread l.window)
      (λ all left. IsRawTo l.fn.bitmap.width l.fn.bitmap.height l.y all left l.bitmap);
  width_still : l.bitmap.width ≡ l.fn.bitmap.width;
  height_still : l.bitmap.height ≡ l.fn.bitmap.height;
  none_failed : g.R.Source.failed_reads l.reader ≡ g.R.Source.failed_reads l.fn.reader;
}
