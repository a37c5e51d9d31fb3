-- What a contract sees of the nearest obstacles of a bitmap's rows.
-- Source: A. Meijster, J. Roerdink, W. Hesselink, "A General Algorithm for Computing Distance
-- Transforms in Linear Time" (2000): the distance transform of a binary image, and its feature
-- transform with this project's rule for ties.
use Rattle.std.specs.Prelude.{◌≡◌, ℕ, ◌+◌, ◌-◌, ◌*◌, ◌<◌, ◌≤◌, List, Option, None, length}
use Rattle.std.specs.Prelude.{slice_index_or}
use Rattle.metric.specs.declared.near.Near.{Near}
use Rattle.metric.specs.Nearest.{IsNear}
use Rattle.metric.specs.declared.edge.Edge.{Edge}
use Rattle.bits.specs.Cells.{Cells}
use Rattle.bits.specs.Edges.{IsBlocked}
use Rattle.column.specs.declared.batch.Batch.{Batch}
pub use Rattle.envelope.specs.Rows.{AreRowNears}
use Rattle.metric.specs.Workers.{row_behind}

-- the list has the nearest obstacle of each cell of rows y0 to y1 - 1, or none, in row-major order
pub record AreNears (distance : ℕ → ℕ → ℕ) (cells : Cells) (edge : Edge) (y0 y1 : ℕ)
    (nears : List (Option Near)) : Type 0 where
  pub as_many : length nears ≡ (y1 - y0) * cells.width
  pub each : (x y : ℕ) → x < cells.width → y0 ≤ y → y < y1
      → IsNear distance (IsBlocked cells edge) x y
      (slice_index_or nears ((y - y0) * cells.width + x) None)

-- the list has the nearest obstacles of a batch's bands after the first `above`, up to band `below`
abbrev pub AreBandNears : (ℕ → ℕ → ℕ) → Batch → ℕ → ℕ → ℕ → List (Option Near) → Type 0
AreBandNears distance batch count above below nears =
    AreNears distance batch.bitmap.now batch.edge (row_behind batch.y0 batch.y1 count above)
    (row_behind batch.y0 batch.y1 count below) nears
