-- The rows before the next one are filled, and their changes counted.
use Rattle.bits.specs.TileWords.{laid}
use Rattle.bits.specs.Cells.{has}
use Rattle.bits.proofs.TileBitsLemmas.{IsTileFilling}
use Rattle.bits.proofs.tile_bits.TileBits.lay.Given as goal

abbrev pub invariant-rows : goal.invariant-rows
invariant-rows l =
    IsTileFilling l.fn.words l.words l.fn.rect.x0 l.fn.rect.y0 l.fn.rect.x1 l.y
    (laid (has l.stamp) l.from.x l.from.y l.fn.rect.x0 l.fn.rect.y0) l.changed
