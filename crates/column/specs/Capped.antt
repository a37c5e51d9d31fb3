-- A map with what its frame has in the map's own columns: this project's own rule. With a wall, a
-- full row precedes the first one and another follows the last one, and rows count these two.
use Rattle.std.specs.Prelude.{ℕ, ◌+◌, ◌-◌, ◌*◌, ◌==◌, ◌||◌, Bool, false}
use Rattle.metric.specs.declared.edge.Edge.{Edge}
use Rattle.metric.specs.declared.edge.Edge.TheVariants.{Open, Wall}
use Rattle.metric.specs.Edge.{shift}
use Rattle.bits.specs.Cells.{Cells, cells_where, has}

-- whether row y is one of the frame's, in a map of `height` rows without the frame
abbrev pub is_cap : Edge → ℕ → ℕ → Bool
is_cap Open height y = false
is_cap Wall height y = y == 0 || y == height + 1

-- whether column x is one of the frame's, of `count` columns with the frame
abbrev pub is_side : Edge → ℕ → ℕ → Bool
is_side Open count x = false
is_side Wall count x = x == 0 || x + 1 == count

-- a capped map has the frame's first and last row, as far as they are in its columns
abbrev pub capped : Edge → Cells → Cells
capped edge cells =
    cells_where cells.width (cells.height + 2 * shift edge)
    (λ x y. is_cap edge cells.height y || has cells x (y - shift edge))
