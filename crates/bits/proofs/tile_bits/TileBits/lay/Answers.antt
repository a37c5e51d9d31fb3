-- Each step of the laying, by the lemma of that step.
use Rattle.std.proofs.Common.{rules, arith}
use Rattle.bits.proofs.TileBitsLemmas.{tile_filling_none, tile_filling_more}
use Rattle.bits.proofs.tile_bits.TileBits.lay.Goals as goal

pub rows-init : goal.rows-init
rows-init c = tile_filling_none _ _ _ _ _ (search rules)

pub rows-preserved : goal.rows-preserved
rows-preserved c =
    rw (c.from-row.ensures) (tile_filling_more _ _ _ _ _ _ _ _ _ _ _ c.rows.invariant (omega arith)
    (omega arith) (search rules) c.laid_row-new.ensures c.changes-changed.ensures.changes
    c.changes-changed.ensures.few)
