-- The obstacles of a map with its edge: this project's own rule. They are named by spots, whose
-- columns and rows are integers. With a wall, the cells of the frame around the map are obstacles
-- too.
use Rattle.std.specs.Prelude.{◌≡◌, ℕ, ◌+◌, ◌-◌, ◌==◌, ◌||◌, ◌<◌, ◌≤◌, ◌⊎◌, ℤ, pos, negsuc, ◌≤ℤ◌}
use Rattle.metric.specs.declared.edge.Edge.{Edge}
use Rattle.metric.specs.declared.edge.Edge.TheVariants.{Open, Wall}
pub use Rattle.metric.specs.Edge.{less_one, shift, spot_of}
use Rattle.bits.specs.Cells.{Cells, IsInside, IsObstacle, cells_where, has}

-- spot (a, b) is a cell of the bitmap, and an obstacle there
abbrev pub IsBlack : Cells → ℤ → ℤ → Type 0
IsBlack cells (pos a) (pos b) = IsObstacle cells a b
IsBlack cells (pos a) (negsuc b) = ⊥
IsBlack cells (negsuc a) b = ⊥

-- spot (a, b) is in the frame: column -1 to the width, row -1 to the height, and no cell of the map
pub record IsFrame (cells : Cells) (a b : ℤ) : Type 0 where
  pub left : negsuc 0 ≤ℤ a
  pub right : a ≤ℤ pos cells.width
  pub top : negsuc 0 ≤ℤ b
  pub bottom : b ≤ℤ pos cells.height
  pub outside : (x y : ℕ) → IsInside cells x y → a ≡ pos x → b ≡ pos y → ⊥

-- spot (a, b) is an obstacle: one of the bitmap, or, with a wall, one of the frame
abbrev pub IsBlocked : Cells → Edge → ℤ → ℤ → Type 0
IsBlocked cells Open a b = IsBlack cells a b
IsBlocked cells Wall a b = IsBlack cells a b ⊎ IsFrame cells a b

-- a map with its frame: with a wall it has two more columns and rows, whose cells are obstacles
abbrev pub framed : Edge → Cells → Cells
framed Open cells = cells
framed Wall cells =
    cells_where (cells.width + 2) (cells.height + 2)
    (λ x y. ((x == 0 || y == 0) || (x == cells.width + 1 || y == cells.height + 1))
    || has cells (x - 1) (y - 1))

-- a cell in the first or last column or row, of which the last are given
pub record IsFrameCell (right bottom a b : ℕ) : Type 0 where
  pub column : a ≤ right
  pub row : b ≤ bottom
  pub edge : (a ≡ 0) ⊎ ((a ≡ right) ⊎ ((b ≡ 0) ⊎ (b ≡ bottom)))

-- a cell of a map with its frame that is an obstacle
abbrev pub IsFramed : Cells → ℕ → ℕ → Type 0
IsFramed cells a b = IsFrameCell (cells.width + 1) (cells.height + 1) a b
    ⊎ ((0 < a) × (0 < b) × IsObstacle cells (a - 1) (b - 1))

-- a map, framed or not, as searches know it: at most as large as the largest framed one
pub record IsMap (cells : Cells) : Type 0 where
  pub width_few : cells.width ≤ 4098
  pub height_few : cells.height ≤ 4098
  pub inside : (x y : ℕ) → IsObstacle cells x y → IsInside cells x y
