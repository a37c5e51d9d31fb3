-- No row that is left has an obstacle in the columns of the tiles before this one.
use Rattle.std.proofs.Common.{◌≡◌, ℕ, ◌/◌, ◌<◌, ◌≤◌}
use Rattle.bits.specs.Cells.{IsObstacle}
use Rattle.footprint.specs.Sides.{IsIn}
use Rattle.footprint.proofs.row.first_struck.Given as goal

abbrev pub invariant-words : goal.invariant-words
invariant-words g l = record {
  rows : l.rows ≡ l.fn.rows;
  first : l.left.first ≡ l.fn.lines.first;
  few : l.left.end ≤ l.fn.lines.end;
  from : l.left.end < l.fn.lines.end → l.fn.lines.first ≤ l.left.end;
  none : (x y : ℕ) → IsIn l.columns.first l.columns.end x → x / 64 < l.tile
      → l.fn.lines.first ≤ y → y < l.left.end → IsObstacle (g.R.Rows.cells l.fn.rows) x y → ⊥;
}
