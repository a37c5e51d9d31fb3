-- A table that keeps only the position of each cell's nearest obstacle, from which the distance
-- follows: this project's own rule.
use Rattle.std.specs.Prelude.{◌≡◌, ℕ, ℤ, pos, negsuc, ◌<ℤ◌, ◌≤ℤ◌, int_lt, ◌+◌, ◌-◌, ◌*◌, ◌/◌, ◌%◌}
use Rattle.std.specs.Prelude.{◌<◌, ◌≤◌, [], List, length, map, slice_index_or, Option, Some}
use Rattle.std.specs.Prelude.{None, if◌then◌else◌}
use Rattle.std.specs.List.{range_with_len}
use Rattle.metric.specs.declared.spot.Spot.{Spot}
use Rattle.metric.specs.declared.near.Near.{Near}
use Rattle.metric.specs.Nearest.{spot_distance}
use Rattle.field.specs.Strips.{AreStrips}

-- the spot of this column and row; none if the column is the mark for none
abbrev pub spot_kept : ℤ → ℤ → Option Spot
spot_kept x y = if int_lt x (negsuc 0) then None else Some (record { x = x; y = y })

-- the two numbers are a spot of a map with its frame, or twice the mark for none
pub record IsKeptSpot (x y : ℤ) : Type 0 where
  pub none : x <ℤ negsuc 0 → (x ≡ negsuc 1) × (y ≡ negsuc 1)
  pub some : negsuc 0 ≤ℤ x → (x ≤ℤ pos 4097) × (negsuc 0 ≤ℤ y) × (y ≤ℤ pos 4097)

-- the obstacle seen from cell (x, y), or none
abbrev pub seen_from : (ℕ → ℕ → ℕ) → ℕ → ℕ → Option Spot → Option Near
seen_from distance x y None = None
seen_from distance x y (Some spot) =
    Some (record { dist = spot_distance distance x y spot.x spot.y; cell = spot })

-- a table has the obstacles of rows y0 to y1 - 1, in row-major order
pub record Obstacles : Type 0 where
  pub width : ℕ
  pub y0 : ℕ
  pub y1 : ℕ
  pub cells : List (Option Spot)

-- the rows are those of a map, and each has its cells
pub record AreRows (table : Obstacles) : Type 0 where
  pub across : table.width ≤ 4096
  pub order : table.y0 ≤ table.y1
  pub within : table.y1 ≤ 4096
  pub as_many : length table.cells ≡ (table.y1 - table.y0) * table.width

-- the cell at this index, in row-major order, in strips of this height with rows of this width
abbrev pub cell_in : ℕ → ℕ → List (List (Option Spot)) → ℕ → Option Spot
cell_in width height strips place =
    slice_index_or (slice_index_or strips (place / (height * width)) [])
    (place % (height * width)) None

-- the cells of this many rows in strips, in row-major order
abbrev pub cells_in : ℕ → ℕ → ℕ → List (List (Option Spot)) → List (Option Spot)
cells_in width height rows strips =
    map (cell_in width height strips) (range_with_len 0 (rows * width))

-- rows y0 to y1 - 1 in strips of this height
abbrev pub in_strips : ℕ → ℕ → ℕ → ℕ → List (List (Option Spot)) → Obstacles
in_strips width y0 y1 height strips =
    record { width = width; y0 = y0; y1 = y1; cells = cells_in width height (y1 - y0) strips }

-- the strips have rows y0 to y1 - 1 of a map
pub record HaveRows (width y0 y1 height : ℕ) (strips : List (List (Option Spot))) : Type 0 where
  pub across : width ≤ 4096
  pub order : y0 ≤ y1
  pub within : y1 ≤ 4096
  pub placed : AreStrips width height (y1 - y0) strips

-- the nearest obstacles in a table, in row-major order, by this distance
abbrev pub nears_told : (ℕ → ℕ → ℕ) → Obstacles → List (Option Near)
nears_told distance table =
    map (λ k. seen_from distance (k % table.width) (table.y0 + k / table.width)
    (slice_index_or table.cells k None)) (range_with_len 0 (length table.cells))

-- this is a distance of two cells at most 4097 columns and rows apart, the most in a framed map
pub record IsDistance (distance : ℕ → ℕ → ℕ) (number : ℕ) : Type 0 where
  pub columns : ℕ
  pub rows : ℕ
  pub few_columns : columns ≤ 4097
  pub few_rows : rows ≤ 4097
  pub is : number ≡ distance columns rows

-- the number is the distance of this nearest obstacle; if there is none, the largest 32-bit number
abbrev pub IsMeasured : (ℕ → ℕ → ℕ) → Option Near → ℕ → Type 0
IsMeasured distance None number = number ≡ 4294967295
IsMeasured distance (Some near) number = (number ≡ near.dist) × IsDistance distance number

-- the numbers are the distances of these nearest obstacles, one by one
pub record AreMeasured (distance : ℕ → ℕ → ℕ) (nears : List (Option Near)) (numbers : List ℕ) :
    Type 0 where
  pub as_many : length numbers ≡ length nears
  pub each : (x : ℕ) → x < length nears
      → IsMeasured distance (slice_index_or nears x None) (slice_index_or numbers x 0)
