-- No tile before this one has an obstacle in the columns.
use Rattle.std.proofs.Common.{◌≡◌, ℕ, ◌/◌, ◌<◌}
use Rattle.footprint.specs.Rows.{IsStruck}
use Rattle.footprint.proofs.row.strikes.Given as goal

abbrev pub invariant-words : goal.invariant-words
invariant-words g l = record {
  rows : l.rows ≡ l.fn.rows;
  none : (x : ℕ) → x / 64 < l.tile
      → IsStruck (g.R.Rows.cells l.fn.rows) l.y l.columns.first l.columns.end x → ⊥;
}
