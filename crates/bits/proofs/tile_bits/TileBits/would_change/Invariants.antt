-- The rows before the next one stay as they are.
use Rattle.bits.specs.TileWords.{every}
use Rattle.bits.proofs.TileBitsLemmas.{StaysTo}
use Rattle.bits.proofs.tile_bits.TileBits.would_change.Given as goal

abbrev pub invariant-rows : goal.invariant-rows
invariant-rows l = StaysTo l.words l.from l.to l.fn.rect.y0 (every l.black) l.y
