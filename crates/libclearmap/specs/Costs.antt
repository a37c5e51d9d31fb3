-- The costs of all cells of a range of rows, by a table: this project's own rule.
use Rattle.std.specs.Prelude.{◌≡◌, ℕ, ℤ, ◌+◌, ◌-◌, ◌*◌, ◌<◌, ◌≤◌, min, List, length, slice_index}
use Rattle.std.specs.Prelude.{Option, Some, None, pos, negsuc, ◌≤ℤ◌}
use Rattle.metric.specs.declared.near.Near.{Near}
use Rattle.metric.specs.declared.edge.Edge.{Edge}
use Rattle.metric.specs.Nearest.{IsLeastDistance, IsNear}
use Rattle.metric.specs.Edge.{shift}
use Rattle.bits.specs.Cells.{Cells, IsBitmap}
use Rattle.bits.specs.Edges.{IsBlocked}
use Rattle.column.specs.Carrying.{IsNextRow}
use Rattle.column.specs.declared.batch.Batch.{Batch}
use Rattle.envelope.specs.Answer.{Saying}
use Rattle.libclearmap.specs.Kept.{distance_kept}
use Rattle.libclearmap.specs.declared.row_distances.Away.{Away}
use Rattle.libclearmap.specs.declared.row_distances.RowDistances.{RowDistances}

-- the cost of a distance: its entry, or the last one where it is past the end, or there is none
abbrev pub cost_of : List ℕ → Option ℕ → ℕ
cost_of costs None = slice_index costs (length costs - 1)
cost_of costs (Some d) = slice_index costs (min d (length costs - 1))

-- a byte is the cost of a cell's least distance to an obstacle
pub record IsCost (costs : List ℕ) (distance : ℕ → ℕ → ℕ) (Obstacle : ℤ → ℤ → Type 0) (x y : ℕ)
    (byte : ℕ) : Type 0 where
  pub least : Option ℕ
  pub least_is : IsLeastDistance distance Obstacle x y least
  pub byte_is : byte ≡ cost_of costs least

-- the bytes are the costs of all cells of rows y0 to y1 - 1, in row-major order
pub record AreCosts (costs : List ℕ) (distance : ℕ → ℕ → ℕ) (cells : Cells) (edge : Edge)
    (y0 y1 : ℕ) (bytes : List ℕ) : Type 0 where
  pub as_many : length bytes ≡ (y1 - y0) * cells.width
  pub each : (x y : ℕ) → x < cells.width → y0 ≤ y → y < y1
      → IsCost costs distance (IsBlocked cells edge) x y
      (slice_index bytes ((y - y0) * cells.width + x))

-- a number is the distance of an obstacle, which is in a map or in the frame around one
pub record IsAwayFrom (near : Near) (number : ℕ) : Type 0 where
  pub number_is : number ≡ near.dist
  pub left : negsuc 0 ≤ℤ near.cell.x
  pub right : near.cell.x ≤ℤ pos 4097
  pub top : negsuc 0 ≤ℤ near.cell.y
  pub bottom : near.cell.y ≤ℤ pos 4097

-- the same where there may be none: then the number is the largest
abbrev pub IsAway : Option Near → ℕ → Type 0
IsAway None number = number ≡ 4294967295
IsAway (Some near) number = IsAwayFrom near number

-- what a distance says of a cell's nearest obstacle
abbrev pub says_away : Saying Away
says_away distance x y away near = IsAway near away.dist

-- the distance where there is no obstacle
abbrev pub no_distance : Away
no_distance = record { dist = 4294967295 }

-- a byte is the cost of a number, which says how far the nearest obstacle of cell (x, y) is
pub record IsPriced (costs : List ℕ) (distance : ℕ → ℕ → ℕ) (Obstacle : ℤ → ℤ → Type 0) (x y : ℕ)
    (byte : ℕ) : Type 0 where
  pub near : Option Near
  pub near_is : IsNear distance Obstacle x y near
  pub number : ℕ
  pub away : IsAway near number
  pub byte_is : byte ≡ cost_of costs (distance_kept number)

-- the bytes are such costs of all cells of rows y0 to y1 - 1, in row-major order
pub record ArePriced (costs : List ℕ) (distance : ℕ → ℕ → ℕ) (cells : Cells) (edge : Edge)
    (y0 y1 : ℕ) (bytes : List ℕ) : Type 0 where
  pub as_many : length bytes ≡ (y1 - y0) * cells.width
  pub each : (x y : ℕ) → x < cells.width → y0 ≤ y → y < y1
      → IsPriced costs distance (IsBlocked cells edge) x y
      (slice_index bytes ((y - y0) * cells.width + x))

-- row y of the batch is the next, and the stack has room for it
pub record IsNextRowOf (batch : Batch) (rows : RowDistances) (y : ℕ) : Type 0 where
  pub bitmap : IsBitmap batch.bitmap.now
  pub columns : IsNextRow batch rows.columns y
  pub stack : batch.bitmap.now.width + 2 * shift batch.edge ≤ rows.stack
