-- The pixels before the next word are in the bitmap, and no read has failed.
use Rattle.std.proofs.Common.{◌≡◌}
use Rattle.pbm.specs.Windows.{Follows, IsOpen, unread}
use Rattle.pbm.proofs.PlainWords.{pixels_before}
use Rattle.pbm.proofs.Progress.{IsReadTo}
use Rattle.pbm.proofs.source.take_pixels.Given as goal

abbrev pub invariant-words : goal.invariant-words
invariant-words g l = record {
  open_still : IsOpen l.window (g.R.Source.rest l.reader);
  packed : Follows (g.R.Source.rest l.fn.reader) (unread l.fn.window) (g.R.Source.rest l.reader)
      (unread l.window)
      (λ all left. IsReadTo all l.fn.bitmap.width l.fn.bitmap.height
      (pixels_before l.fn.bitmap.width l.y l.index) l.bitmap left);
  width_still : l.bitmap.width ≡ l.fn.bitmap.width;
  height_still : l.bitmap.height ≡ l.fn.bitmap.height;
  none_failed : g.R.Source.failed_reads l.reader ≡ g.R.Source.failed_reads l.fn.reader;
}

abbrev pub invariant-rows : goal.invariant-rows
invariant-rows g l = record {
  open_still : IsOpen l.window (g.R.Source.rest l.reader);
  packed : Follows (g.R.Source.rest l.fn.reader) (unread l.fn.window) (g.R.Source.rest l.reader)
      (unread l.window)
      (λ all left. IsReadTo all l.fn.bitmap.width l.fn.bitmap.height
      (pixels_before l.fn.bitmap.width l.y 0) l.bitmap left);
  width_still : l.bitmap.width ≡ l.fn.bitmap.width;
  height_still : l.bitmap.height ≡ l.fn.bitmap.height;
  none_failed : g.R.Source.failed_reads l.reader ≡ g.R.Source.failed_reads l.fn.reader;
}
