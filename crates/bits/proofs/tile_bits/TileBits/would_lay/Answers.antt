-- A row that changes, or none.
use Rattle.std.proofs.Common.{◌∙◌, rules, arith}
use Rattle.bits.specs.Cells.{has}
use Rattle.bits.specs.TileWords.{laid}
use Rattle.bits.proofs.TileBitsLemmas.{row_would_change}
use Rattle.bits.proofs.tile_bits.TileBits.would_lay.Goals as goal

pub returns-then-laid_row-old : goal.returns-then-laid_row-old
returns-then-laid_row-old c =
    row_would_change _ _ _ _ _ c.rows.y
    (laid (has c.args.stamp.now) c.args.from.x c.args.from.y c.args.rect.x0 c.args.rect.y0) _
    (omega arith) (omega arith) (omega arith) (search rules)
    (λ e. c.if-laid_row-old.true (c.laid_row.ensures ∙ e))
