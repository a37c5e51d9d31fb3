-- No row before this one has an obstacle that meets the polygon.
use Rattle.std.proofs.Common.{◌≡◌, ℕ, ◌<◌, ◌≤◌}
use Rattle.footprint.specs.Polygon.{IsHit}
use Rattle.footprint.proofs.hit.any_row.Given as goal

abbrev pub invariant-rows : goal.invariant-rows
invariant-rows g l = record {
  rows : l.rows ≡ l.fn.rows;
  from : l.fn.lines.first ≤ l.y;
  none : (x y : ℕ) → l.fn.lines.first ≤ y → y < l.y
      → IsHit (g.R.Rows.cells l.fn.rows) l.ring x y → ⊥;
}
