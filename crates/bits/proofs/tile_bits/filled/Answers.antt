-- A word written by its mask.
use Rattle.std.proofs.Common.{rules}
use Rattle.bits.proofs.TileBitsLemmas.{filled_black, filled_white}
use Rattle.bits.proofs.tile_bits.filled.Goals as goal

pub returns-then-black : goal.returns-then-black
returns-then-black c =
    rw c.if-black.true (filled_black _ _ _ _ c.ranges.word.fits
    (search rules) c.columns-mask.ensures)

pub returns-else-black : goal.returns-else-black
returns-else-black c =
    rw c.if-black.false (filled_white _ _ _ _ c.ranges.word.fits
    (search rules) c.columns-mask.ensures)
