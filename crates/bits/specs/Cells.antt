-- What a contract sees of a bitmap: a size, and a set of cells, its obstacles.
-- Source: pbm(5), the Netpbm manual's page of the PBM format. An obstacle is a black pixel; x
-- counts columns from the left and y counts rows from the top, both from 0.
use Rattle.std.specs.Prelude.{◌≡◌, ℕ, ◌+◌, ◌-◌, ◌<◌, ◌≤◌, ◌&&◌, ◌==◌, nat_lt, nat_le, Bool, true}
use Rattle.std.specs.Prelude.{false, List, [], slice_index_or, map, if◌then◌else◌}
use Rattle.std.specs.List.{range_with_len}

-- a size, and for each row whether the cell of each column is an obstacle
pub record Cells : Type 0 where
  pub width : ℕ
  pub height : ℕ
  pub rows : List (List Bool)

-- whether cell (x, y) is an obstacle; in a bitmap no cell outside is one
unfoldable pub has : Cells → ℕ → ℕ → Bool
has cells x y = slice_index_or (slice_index_or cells.rows y []) x false

-- the results of a test, row by row from the top
unfoldable pub rows_where : ℕ → ℕ → (ℕ → ℕ → Bool) → List (List Bool)
rows_where width height test =
    map (λ y. map (λ x. test x y) (range_with_len 0 width)) (range_with_len 0 height)

-- the bitmap of this size whose obstacles are the cells that pass a test
abbrev pub cells_where : ℕ → ℕ → (ℕ → ℕ → Bool) → Cells
cells_where width height test =
    record { width = width; height = height; rows = rows_where width height test }

-- a side of a bitmap is 1 to 4096 cells long
pub record IsSide (count : ℕ) : Type 0 where
  pub some : 1 ≤ count
  pub few : count ≤ 4096

-- a bitmap: both sides are within their limits, and each cell has a value, and no other has
pub record IsBitmap (cells : Cells) : Type 0 where
  pub width_is : IsSide cells.width
  pub height_is : IsSide cells.height
  pub whole : cells.rows ≡ rows_where cells.width cells.height (has cells)

-- cell (x, y) is within the bitmap
pub record IsInside (cells : Cells) (x y : ℕ) : Type 0 where
  pub column : x < cells.width
  pub row : y < cells.height

-- cell (x, y) is an obstacle
abbrev pub IsObstacle : Cells → ℕ → ℕ → Type 0
IsObstacle cells x y = has cells x y ≡ true

-- the bitmap with one cell set to a value
abbrev pub with_cell : Cells → ℕ → ℕ → Bool → Cells
with_cell cells x y value =
    cells_where cells.width cells.height (λ a b. if a == x && b == y then value else has cells a b)

-- whether cell (x, y) is in columns x0 to x1 - 1 and rows y0 to y1 - 1
abbrev pub is_within : ℕ → ℕ → ℕ → ℕ → ℕ → ℕ → Bool
is_within x0 y0 x1 y1 x y = (nat_le x0 x && nat_lt x x1) && (nat_le y0 y && nat_lt y y1)

-- the bitmap with each cell of a rectangle set to one value
abbrev pub with_rect : Cells → ℕ → ℕ → ℕ → ℕ → Bool → Cells
with_rect cells x0 y0 x1 y1 value =
    cells_where cells.width cells.height
    (λ a b. if is_within x0 y0 x1 y1 a b then value else has cells a b)

-- the bitmap with a stamp laid on it, its first cell at (x, y)
abbrev pub with_stamp : Cells → ℕ → ℕ → Cells → Cells
with_stamp cells x y stamp =
    cells_where cells.width cells.height
    (λ a b. if is_within x y (x + stamp.width) (y + stamp.height) a b
    then has stamp (a - x) (b - y) else has cells a b)

-- the bitmap with each cell of a rectangle set to its value in a picture that starts at (x0, y0)
abbrev pub with_values : Cells → ℕ → ℕ → ℕ → ℕ → (ℕ → ℕ → Bool) → Cells
with_values cells x0 y0 x1 y1 value =
    cells_where cells.width cells.height
    (λ a b. if is_within x0 y0 x1 y1 a b then value (a - x0) (b - y0) else has cells a b)
