-- The distances of the nearest obstacles of a range of rows, without their positions: this
-- project's own rule.
use Rattle.std.specs.Prelude.{ℕ, ℤ, ◌+◌, ◌-◌, ◌*◌, ◌/◌, ◌%◌, ◌<◌, ◌≤◌, List, []}
use Rattle.std.specs.Prelude.{Option, slice_index, slice_index_or}
use Rattle.metric.specs.declared.near.Near.{Near}
use Rattle.metric.specs.declared.edge.Edge.{Edge}
use Rattle.metric.specs.Nearest.{IsNear}
use Rattle.bits.specs.Cells.{Cells}
use Rattle.bits.specs.Edges.{IsBlocked}
use Rattle.envelope.specs.Answer.{IsDistanceOf}
use Rattle.field.specs.Bands.{AreValues}
use Rattle.field.specs.Obstacles.{IsMeasured}
use Rattle.field.specs.Strips.{AreStrips}

-- the number is the distance of the nearest obstacle of cell (x, y)
pub record IsFarAway (distance : ℕ → ℕ → ℕ) (Obstacle : ℤ → ℤ → Type 0) (x y number : ℕ) : Type 0
  where
    pub near : Option Near
    pub near_is : IsNear distance Obstacle x y near
    pub measured : IsMeasured distance near number

-- the first numbers are the distances of the cells of rows `from` to `to - 1`, in row-major order
pub record AreMeasuredRows (distance : ℕ → ℕ → ℕ) (cells : Cells) (edge : Edge) (from to : ℕ)
    (numbers : List ℕ) : Type 0 where
  pub each : (x y : ℕ) → x < cells.width → from ≤ y → y < to
      → IsFarAway distance (IsBlocked cells edge) x y
      (slice_index numbers ((y - from) * cells.width + x))

-- the numbers are the distances of all cells of rows `from` to `to - 1`, in row-major order
abbrev pub AreAllMeasured : (ℕ → ℕ → ℕ) → Cells → Edge → ℕ → ℕ → List ℕ → Type 0
AreAllMeasured =
    AreValues (λ distance x y number near. IsDistanceOf near number) 4294967295

-- a table of distances has rows y0 to y1 - 1 in strips of equal height, except the last
pub record Distances : Type 0 where
  pub width : ℕ
  pub y0 : ℕ
  pub y1 : ℕ
  pub height : ℕ
  pub strips : List (List ℕ)

-- rows y0 to y1 - 1 in strips of this height
abbrev pub distances_in : ℕ → ℕ → ℕ → ℕ → List (List ℕ) → Distances
distances_in width y0 y1 height strips =
    record { width = width; y0 = y0; y1 = y1; height = height; strips = strips }

-- the number that a table of distances has for cell (x, y)
abbrev pub number_at : Distances → ℕ → ℕ → ℕ
number_at table x y =
    slice_index (slice_index_or table.strips ((y - table.y0) / table.height) [])
    ((y - table.y0) % table.height * table.width + x)

-- the strips have the rows of a map, each with as many numbers as it has cells
pub record HaveNumbers (table : Distances) : Type 0 where
  pub across : table.width ≤ 4096
  pub order : table.y0 ≤ table.y1
  pub placed : AreStrips table.width table.height (table.y1 - table.y0) table.strips
