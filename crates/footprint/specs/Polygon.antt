-- When a polygon hits an obstacle of a map: by separating axes, in whole numbers. This project's own
-- rule. A polygon is a ring of corners, whose last side leads back to the first. Corners are in
-- steps of 1/65536 of a cell; the square of cell (x, y) is between the lines of columns x and x + 1
-- and those of rows y and y + 1.
use Rattle.std.specs.Prelude.{ℕ, ◌-◌, ℤ, pos, negsuc, ◌+ℤ◌, ◌-ℤ◌, ◌*ℤ◌, ◌≤ℤ◌, ◌<ℤ◌, ◌⊎◌, List}
use Rattle.std.specs.Prelude.{[], ◌∷◌, length, slice_index_or}
use Rattle.std.specs.List.{Any}
use Rattle.metric.specs.declared.edge.Edge.{Edge}
use Rattle.metric.specs.declared.edge.Edge.TheVariants.{Open, Wall}
use Rattle.bits.specs.Cells.{Cells, IsObstacle}
use Rattle.footprint.specs.declared.corner.Corner.{Corner}

-- the line before a column or a row, in steps
abbrev pub line : ℤ → ℤ
line n = n *ℤ pos 65536

-- twice the area of the triangle a, b, (px, py): above 0 where the point is on the inner side of a
-- to b
abbrev pub cross : Corner → Corner → ℤ → ℤ → ℤ
cross a b px py = (b.x -ℤ a.x) *ℤ (py -ℤ a.y) -ℤ (b.y -ℤ a.y) *ℤ (px -ℤ a.x)

-- a point is strictly on the inner side of a to b
pub record IsInner (a b : Corner) (px py : ℤ) : Type 0 where
  pub above : pos 0 <ℤ cross a b px py

-- the side from a to b doesn't separate the square of cell (x, y) from the polygon: one of the
-- square's four corners is strictly on its inner side
abbrev pub Passes : Corner → Corner → ℤ → ℤ → Type 0
Passes a b x y = IsInner a b (line x) (line y)
    ⊎ (IsInner a b (line (x +ℤ pos 1)) (line y)
    ⊎ (IsInner a b (line x) (line (y +ℤ pos 1))
    ⊎ IsInner a b (line (x +ℤ pos 1)) (line (y +ℤ pos 1))))

-- no side from corner to corner separates them, the first one from a
abbrev pub PassesFrom : Corner → List Corner → ℤ → ℤ → Type 0
PassesFrom a [] x y = Unit {0}
PassesFrom a (b ∷ rest) x y = Passes a b x y × PassesFrom b rest x y

-- the last corner of a ring
abbrev pub last_of : List Corner → Corner
last_of ring = slice_index_or ring (length ring - 1) (record { x = pos 0; y = pos 0 })

-- some number of the corners, as their x, is below the line after column n, and some is above the
-- line before it: the open ranges of both overlap
pub record IsOverlapped (number : Corner → ℤ) (ring : List Corner) (n : ℤ) : Type 0 where
  pub below : Any (λ c. number c <ℤ line (n +ℤ pos 1)) ring
  pub above : Any (λ c. line n <ℤ number c) ring

-- the square of cell (x, y) meets the polygon: neither its columns nor its rows separate them, and
-- no side of the polygon does
pub record Meets (ring : List Corner) (x y : ℤ) : Type 0 where
  pub columns : IsOverlapped (λ c. c.x) ring x
  pub rows : IsOverlapped (λ c. c.y) ring y
  pub sides : PassesFrom (last_of ring) ring x y

-- cell (x, y) of the map is an obstacle whose square meets the polygon
pub record IsHit (cells : Cells) (ring : List Corner) (x y : ℕ) : Type 0 where
  pub obstacle : IsObstacle cells x y
  pub meets : Meets ring (pos x) (pos y)

-- a corner is off the map
abbrev pub IsOff : Cells → Corner → Type 0
IsOff cells c = ((c.x <ℤ pos 0) ⊎ (line (pos cells.width) <ℤ c.x))
    ⊎ ((c.y <ℤ pos 0) ⊎ (line (pos cells.height) <ℤ c.y))

-- some obstacle of the map meets the polygon
abbrev pub HasHit : Cells → List Corner → Type 0
HasHit cells ring = (x : ℕ) × (y : ℕ) × IsHit cells ring x y

-- the polygon hits the map: an obstacle, or, with a wall, the cells off the map, by a corner that is
-- off it
abbrev pub Hits : Cells → Edge → List Corner → Type 0
Hits cells Open ring = HasHit cells ring
Hits cells Wall ring = HasHit cells ring ⊎ Any (IsOff cells) ring

-- a number of steps is less than 16,384 cells, either way
pub record IsNearBy (steps : ℤ) : Type 0 where
  pub low : negsuc 1073741822 ≤ℤ steps
  pub high : steps ≤ℤ pos 1073741823

-- a corner is less than 16,384 columns and rows away
pub record IsNear (a : Corner) : Type 0 where
  pub column : IsNearBy a.x
  pub row : IsNearBy a.y
