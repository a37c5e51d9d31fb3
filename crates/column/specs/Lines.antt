-- Lines of entries carried from row to row, and what a band of rows knows of the obstacles below
-- it: this project's own rule.
use Rattle.std.specs.Prelude.{◌≡◌, ℕ, ◌+◌, ◌-◌, ◌*◌, ◌<◌, ◌≤◌, min, List, length, slice_index}
use Rattle.std.specs.Prelude.{Option, Some, None}
use Rattle.metric.specs.Edge.{shift}
use Rattle.metric.specs.declared.edge.Edge.{Edge}
use Rattle.bits.specs.Cells.{Cells, IsObstacle}
use Rattle.column.specs.Capped.{capped}
use Rattle.column.specs.Columns.{row_of}

-- the row of the lowest obstacle of column x before row y; none if there is none
abbrev pub IsRowBefore : Cells → ℕ → ℕ → Option ℕ → Type 0
IsRowBefore cells x y None = (b : ℕ) → b < y → IsObstacle cells x b → ⊥
IsRowBefore cells x y (Some row) =
    IsObstacle cells x row × (row < y) × ((b : ℕ) → b < y → IsObstacle cells x b → b ≤ row)

-- the row of the uppermost obstacle of column x from row y on; none if there is none
abbrev pub IsRowFrom : Cells → ℕ → ℕ → Option ℕ → Type 0
IsRowFrom cells x y None = (b : ℕ) → y ≤ b → IsObstacle cells x b → ⊥
IsRowFrom cells x y (Some row) =
    IsObstacle cells x row × (y ≤ row) × ((b : ℕ) → y ≤ b → IsObstacle cells x b → row ≤ b)

-- the line has for each column its nearest obstacle before row y
pub record IsLineBefore (cells : Cells) (y : ℕ) (line : List ℕ) : Type 0 where
  pub as_many : length line ≡ cells.width
  pub each : (x : ℕ) → x < cells.width → IsRowBefore cells x y (row_of (slice_index line x))

-- the line has for each column its nearest obstacle from row y on
pub record IsLineFrom (cells : Cells) (y : ℕ) (line : List ℕ) : Type 0 where
  pub as_many : length line ≡ cells.width
  pub each : (x : ℕ) → x < cells.width → IsRowFrom cells x y (row_of (slice_index line x))

-- the lines have each column's nearest obstacle below each of rows `from` to `to - 1`
pub record AreLinesBehind (cells : Cells) (edge : Edge) (first from to : ℕ) (lines : List ℕ) :
    Type 0 where
  pub each : (x y : ℕ) → x < cells.width → from ≤ y → y < to
      → IsRowFrom (capped edge cells) x (y + 1 + shift edge)
      (row_of (slice_index lines ((y - first) * cells.width + x)))

-- the lines have each column's nearest obstacle before row `to` below each band from `from` on
pub record AreBandLines (cells : Cells) (edge : Edge) (from to bands : ℕ) (lines : List ℕ) :
    Type 0 where
  pub each : (x band : ℕ) → x < cells.width → bands ≤ band → from + 64 * band < to
      → IsRowFrom (capped edge cells) x (min (from + 64 * (band + 1)) to + shift edge)
      (row_of (slice_index lines (band * cells.width + x)))
