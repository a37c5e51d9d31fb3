-- No row before this one has an obstacle.
use Rattle.std.proofs.Common.{◌≡◌, ℕ, ◌<◌}
use Rattle.bits.specs.Cells.{IsObstacle}
use Rattle.clearance.specs.Search.{IsInRect}
use Rattle.clearance.proofs.inside.first_obstacle.Given as goal

abbrev pub invariant-rows : goal.invariant-rows
invariant-rows g l = record {
  rows : l.rows ≡ l.fn.rows;
  none : (a b : ℕ) → IsInRect l.rect a b → b < l.y
      → IsObstacle (g.R.Rows.cells l.fn.rows) a b → ⊥;
}
