-- No band before this one has an obstacle that meets the polygon.
use Rattle.std.proofs.Common.{◌≡◌, ℕ, ◌/◌, ◌<◌, ◌≤◌}
use Rattle.footprint.specs.Polygon.{IsHit}
use Rattle.footprint.proofs.hit.any_band.Given as goal

abbrev pub invariant-bands : goal.invariant-bands
invariant-bands g l = record {
  rows : l.rows ≡ l.fn.rows;
  from : l.fn.lines.first / 64 ≤ l.band;
  none : (x y : ℕ) → l.fn.lines.first ≤ y → y / 64 < l.band
      → IsHit (g.R.Rows.cells l.fn.rows) l.ring x y → ⊥;
}
