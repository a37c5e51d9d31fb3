-- The distances of all cells of a range of rows, as C sees them: this project's own rule.
use Rattle.std.specs.Prelude.{◌≡◌, ℕ, ◌+◌, ◌-◌, ◌*◌, ◌<◌, ◌≤◌, List, length, slice_index}
use Rattle.metric.specs.declared.edge.Edge.{Edge}
use Rattle.metric.specs.Nearest.{IsLeastDistance}
use Rattle.bits.specs.Cells.{Cells}
use Rattle.bits.specs.Edges.{IsBlocked}
use Rattle.libclearmap.specs.Kept.{distance_kept}

-- the numbers are the least distances of all cells of rows y0 to y1 - 1, in row-major order
pub record AreDistances (distance : ℕ → ℕ → ℕ) (cells : Cells) (edge : Edge) (y0 y1 : ℕ)
    (numbers : List ℕ) : Type 0 where
  pub as_many : length numbers ≡ (y1 - y0) * cells.width
  pub each : (x y : ℕ) → x < cells.width → y0 ≤ y → y < y1
      → IsLeastDistance distance (IsBlocked cells edge) x y
      (distance_kept (slice_index numbers ((y - y0) * cells.width + x)))
