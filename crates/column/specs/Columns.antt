-- What a contract sees of the nearest obstacle in a column: this project's own rule.
-- Source: A. Meijster, J. Roerdink, W. Hesselink, "A General Algorithm for Computing Distance
-- Transforms in Linear Time" (2000): the first phase, over the columns, here with the obstacle's
-- row in place of its distance.
use Rattle.std.specs.Prelude.{◌≡◌, ℕ, ◌<◌, ◌≤◌, ◌⊎◌, ◌==◌, List, length, slice_index, Option, Some}
use Rattle.std.specs.Prelude.{None, if◌then◌else◌}
use Rattle.std.specs.Int.{abs_diff}
use Rattle.bits.specs.Cells.{Cells, IsObstacle}

-- seen from row y, one row isn't farther than the other, and is the upper if both are equally far
pub record IsRowAtMost (y row other : ℕ) : Type 0 where
  pub order : (abs_diff y row < abs_diff y other)
      ⊎ ((abs_diff y row ≡ abs_diff y other) × (row ≤ other))

-- the row of column x's obstacle nearest to row y, the upper on a tie; none if the column has none
abbrev pub IsNearestRow : Cells → ℕ → ℕ → Option ℕ → Type 0
IsNearestRow cells x y None = (b : ℕ) → IsObstacle cells x b → ⊥
IsNearestRow cells x y (Some row) =
    IsObstacle cells x row × ((b : ℕ) → IsObstacle cells x b → IsRowAtMost y row b)

-- an entry means its own row, or none if it is the largest 16-bit number
abbrev pub row_of : ℕ → Option ℕ
row_of entry = if entry == 65535 then None else Some entry

-- these entries are the nearest rows of all columns, seen from row y
pub record IsRowOfTable (cells : Cells) (y : ℕ) (entries : List ℕ) : Type 0 where
  pub as_many : length entries ≡ cells.width
  pub each : (x : ℕ) → x < cells.width → IsNearestRow cells x y (row_of (slice_index entries x))
