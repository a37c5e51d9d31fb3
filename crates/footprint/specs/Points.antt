-- Points inside a polygon and inside the square of a cell: this project's own rule. The point is
-- (px / q, py / q), in steps.
use Rattle.std.specs.Prelude.{ℕ, ◌*◌, ◌<◌, ◌≤◌, ℤ, pos, ◌+ℤ◌, ◌-ℤ◌, ◌*ℤ◌, ◌<ℤ◌, List, [], ◌∷◌}
use Rattle.std.specs.List.{Any}
use Rattle.bits.specs.Cells.{Cells, IsObstacle}
use Rattle.footprint.specs.declared.corner.Corner.{Corner}
use Rattle.footprint.specs.Polygon.{last_of, line}

-- q times twice the area of the triangle a, b, (px / q, py / q)
abbrev pub cross_of_point : Corner → Corner → ℕ → ℤ → ℤ → ℤ
cross_of_point a b q px py = (b.x -ℤ a.x) *ℤ (py -ℤ pos q *ℤ a.y)
    -ℤ (b.y -ℤ a.y) *ℤ (px -ℤ pos q *ℤ a.x)

-- the point is strictly on the inner side of each side from corner to corner, the first one from a
abbrev pub IsInnerFrom : Corner → List Corner → ℕ → ℤ → ℤ → Type 0
IsInnerFrom a [] q px py = Unit {0}
IsInnerFrom a (b ∷ rest) q px py =
    (pos 0 <ℤ cross_of_point a b q px py) × IsInnerFrom b rest q px py

-- the point is strictly inside the polygon: on the inner side of each side, and between its corners'
-- columns and between their rows
pub record IsInPolygon (ring : List Corner) (q : ℕ) (px py : ℤ) : Type 0 where
  pub sides : IsInnerFrom (last_of ring) ring q px py
  pub right_of : Any (λ c. (pos q *ℤ c.x) <ℤ px) ring
  pub left_of : Any (λ c. px <ℤ (pos q *ℤ c.x)) ring
  pub below : Any (λ c. (pos q *ℤ c.y) <ℤ py) ring
  pub above : Any (λ c. py <ℤ (pos q *ℤ c.y)) ring

-- the point is strictly inside the square of cell (x, y)
pub record IsInSquare (x y : ℤ) (q : ℕ) (px py : ℤ) : Type 0 where
  pub right_of : (pos q *ℤ line x) <ℤ px
  pub left_of : px <ℤ (pos q *ℤ line (x +ℤ pos 1))
  pub below : (pos q *ℤ line y) <ℤ py
  pub above : py <ℤ (pos q *ℤ line (y +ℤ pos 1))

-- the corner where the lines before column x and row y meet
abbrev pub corner_of_cell : ℕ → ℕ → Corner
corner_of_cell x y = record { x = pos (x * 65536); y = pos (y * 65536) }

-- the polygon of columns x0 to x1 - 1 and rows y0 to y1 - 1
abbrev pub ring_of_rect : ℕ → ℕ → ℕ → ℕ → List Corner
ring_of_rect x0 y0 x1 y1 =
    corner_of_cell x0 y0 ∷ corner_of_cell x1 y0 ∷ corner_of_cell x1 y1 ∷ corner_of_cell x0 y1 ∷ []

-- an obstacle of the map is in these columns and rows
pub record HasObstacleIn (cells : Cells) (x0 y0 x1 y1 : ℕ) : Type 0 where
  pub x : ℕ
  pub y : ℕ
  pub obstacle : IsObstacle cells x y
  pub left : x0 ≤ x
  pub right : x < x1
  pub top : y0 ≤ y
  pub bottom : y < y1
