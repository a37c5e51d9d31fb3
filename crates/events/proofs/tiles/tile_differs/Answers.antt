-- A tile differs exactly if a row of it does.
use Rattle.std.proofs.Common.{arith, sym, ◌∙◌}
use Rattle.events.proofs.accounts.TileCounts.{tile_differs_at, tile_differs_none}
use Rattle.events.proofs.tiles.tile_differs.Goals as goal

pub returns-then-tile_row : goal.returns-then-tile_row
returns-then-tile_row c =
    tile_differs_at _ _ _ c.loop-row.row c.loop-row-test.true
    (λ same. c.if-tile_row.true (c.tile_row.ensures
    ∙ (same ∙ sym c.tile_row-in-loop-row.ensures)))

pub returns : goal.returns
returns c = tile_differs_none _ _ _ (λ i h. c.loop-row.invariant i (omega arith))
