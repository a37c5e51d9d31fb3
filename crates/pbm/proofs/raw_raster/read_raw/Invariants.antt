-- The rows before the next one are in the bitmap.
use Rattle.std.proofs.Common.{◌≡◌, ◌*◌}
use Rattle.bits.specs.Words.{words_across}
use Rattle.pbm.specs.Image.{bytes_across, raw_pixel}
use Rattle.pbm.proofs.Words.{drawn_words}
use Rattle.pbm.proofs.raw_raster.read_raw.Given as goal

abbrev pub invariant-rows : goal.invariant-rows
invariant-rows l =
    l.bitmap ≡ drawn_words l.fn.bitmap.width l.fn.bitmap.height
    (raw_pixel (bytes_across l.fn.bitmap.width) l.raster) (l.y * words_across l.fn.bitmap.width)
