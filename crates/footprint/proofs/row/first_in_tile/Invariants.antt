-- No row before this one has an obstacle in the tile's columns.
use Rattle.std.proofs.Common.{◌≡◌, ℕ, ◌/◌, ◌<◌, ◌≤◌}
use Rattle.bits.specs.Cells.{IsObstacle}
use Rattle.footprint.specs.Sides.{IsIn}
use Rattle.footprint.proofs.row.first_in_tile.Given as goal

abbrev pub invariant-rows : goal.invariant-rows
invariant-rows g l = record {
  rows : l.rows ≡ l.fn.rows;
  from : l.lines.first ≤ l.y;
  none : (x y : ℕ) → IsIn l.columns.first l.columns.end x → x / 64 ≡ l.tile
      → l.lines.first ≤ y → y < l.y → IsObstacle (g.R.Rows.cells l.fn.rows) x y → ⊥;
}
