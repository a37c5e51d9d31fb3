-- No tile before this one has an obstacle.
use Rattle.std.proofs.Common.{◌≡◌, ℕ, ◌/◌, ◌<◌, ◌≤◌}
use Rattle.bits.specs.Cells.{IsObstacle}
use Rattle.clearance.proofs.inside.first_in_row.Given as goal

abbrev pub invariant-words : goal.invariant-words
invariant-words g l = record {
  rows : l.rows ≡ l.fn.rows;
  none : (a : ℕ) → l.rect.x0 ≤ a → a < l.rect.x1 → a / 64 < l.tile
      → IsObstacle (g.R.Rows.cells l.fn.rows) a l.y → ⊥;
}
