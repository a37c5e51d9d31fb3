-- The rows before the next one stay as they are.
use Rattle.bits.specs.TileWords.{laid}
use Rattle.bits.specs.Cells.{has}
use Rattle.bits.proofs.TileBitsLemmas.{StaysTo}
use Rattle.bits.proofs.tile_bits.TileBits.would_lay.Given as goal

abbrev pub invariant-rows : goal.invariant-rows
invariant-rows l =
    StaysTo l.words l.fn.rect.x0 l.fn.rect.x1 l.fn.rect.y0
    (laid (has l.stamp) l.from.x l.from.y l.fn.rect.x0 l.fn.rect.y0) l.y
