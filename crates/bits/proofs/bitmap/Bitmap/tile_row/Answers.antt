-- The word that is read is the row of the tile.
use Rattle.std.proofs.Common.{arith, rules, ap, get_or}
use Rattle.bits.proofs.TileLemmas.{tile_row_read}
use Rattle.bits.proofs.bitmap.Bitmap.tile_row.Goals as goal

pub returns-then-y-height : goal.returns-then-y-height
returns-then-y-height c =
    tile_row_read _ c.args.position c.args.row _ _ c.row_words.result.now _
    c.tiles_across-across.ensures.some c.tiles_across-across.ensures.across
    (omega arith) c.row_words.ensures (ap (λ k. get_or c.row_words.result.now k 0) c.from.ensures)
    (search rules)
