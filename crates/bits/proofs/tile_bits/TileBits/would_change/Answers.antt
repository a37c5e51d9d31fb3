-- A row that changes, or none.
use Rattle.std.proofs.Common.{◌∙◌, rules, arith}
use Rattle.bits.specs.TileWords.{every}
use Rattle.bits.proofs.TileBitsLemmas.{row_would_change}
use Rattle.bits.proofs.tile_bits.TileBits.would_change.Goals as goal

pub returns-then-filled-old : goal.returns-then-filled-old
returns-then-filled-old c =
    rw (← c.from-from.ensures, ← c.from-to.ensures)
    (row_would_change _ _ _ _ _ c.rows.y (every c.args.black) _ (omega arith) (omega arith)
    (omega arith) (search rules)
    (λ e. c.if-filled-old.true (c.filled.ensures ∙ e)))
