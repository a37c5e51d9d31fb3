-- A bitmap in a table of nearest rows: this project's own rule. The rows of entries lie one after
-- another, and have the frame's columns with a wall. An entry counts rows with the frame; a cell is
-- an obstacle if its entry is its own row.
use Rattle.std.specs.Prelude.{◌≡◌, ℕ, ◌+◌, ◌*◌, ◌<◌, ◌==◌, List, length, slice_index}
use Rattle.metric.specs.declared.edge.Edge.{Edge}
use Rattle.metric.specs.Edge.{shift}
use Rattle.bits.specs.Cells.{Cells, cells_where, IsSide}
use Rattle.bits.specs.Edges.{framed}
use Rattle.column.specs.Columns.{IsNearestRow, row_of}

-- a bitmap with its edge
pub record Bordered : Type 0 where
  pub cells : Cells
  pub edge : Edge

-- the index of a cell's entry, where the cell's column and row don't count the frame
abbrev pub place_in : ℕ → Edge → ℕ → ℕ → ℕ
place_in width edge x y = y * (width + 2 * shift edge) + (x + shift edge)

-- the bitmap that a table was made from
abbrev pub cells_tabled : ℕ → ℕ → Edge → List ℕ → Cells
cells_tabled width height edge entries =
    cells_where width height (λ x y. slice_index entries (place_in width edge x y)
    == y + shift edge)

-- the entries of the map's first rows are the nearest rows of their columns
pub record HasRows (cells : Cells) (edge : Edge) (width rows : ℕ) (entries : List ℕ) : Type 0 where
  pub each : (x y : ℕ) → x < width + 2 * shift edge → y < rows
      → IsNearestRow (framed edge cells) x (y + shift edge)
      (row_of (slice_index entries (y * (width + 2 * shift edge) + x)))

-- each entry is the nearest row of the bitmap with its edge that the table was made from
pub record IsTabled (width height : ℕ) (edge : Edge) (entries : List ℕ) : Type 0 where
  pub width_is : IsSide width
  pub height_is : IsSide height
  pub as_many : length entries ≡ height * (width + 2 * shift edge)
  pub rows : HasRows (cells_tabled width height edge entries) edge width height entries
