-- The pixels before the next word are in the bitmap.
use Rattle.pbm.proofs.PlainWords.{pixels_before}
use Rattle.pbm.proofs.Progress.{IsReadTo}
use Rattle.pbm.proofs.raster.read_plain.Given as goal

abbrev pub invariant-words : goal.invariant-words
invariant-words l =
    IsReadTo l.fn.bytes l.fn.bitmap.width l.fn.bitmap.height
    (pixels_before l.fn.bitmap.width l.y l.index) l.bitmap l.rest

abbrev pub invariant-rows : goal.invariant-rows
invariant-rows l =
    IsReadTo l.fn.bytes l.fn.bitmap.width l.fn.bitmap.height
    (pixels_before l.fn.bitmap.width l.y 0) l.bitmap l.rest
