-- The rows before the next one are filled, and their changes counted.
use Rattle.bits.specs.TileWords.{every}
use Rattle.bits.proofs.TileBitsLemmas.{IsTileFilling}
use Rattle.bits.proofs.tile_bits.TileBits.fill.Given as goal

abbrev pub invariant-rows : goal.invariant-rows
invariant-rows l =
    IsTileFilling l.fn.words l.words l.from l.fn.rect.y0 l.to l.y (every l.black) l.changed
