-- The nearest of a set of obstacles, with a fixed rule for ties: this project's own rule. An
-- obstacle is named by a spot, whose column and row are integers: in the frame around a map they
-- may be -1.
use Rattle.std.specs.Prelude.{◌≡◌, ℕ, suc, ◌+◌, ◌<◌, ◌≤◌, ◌⊎◌, ℤ, pos, negsuc, ◌<ℤ◌, ◌≤ℤ◌, Option}
use Rattle.std.specs.Prelude.{Some, None}
use Rattle.std.specs.Int.{abs_diff}
use Rattle.metric.specs.declared.near.Near.{Near}

-- how far a cell's column or row and a spot's are apart
abbrev pub apart : ℕ → ℤ → ℕ
apart x (pos a) = abs_diff x a
apart x (negsuc a) = x + suc a

-- the distance of cell (x, y) and spot (a, b) is that of their column and row differences
abbrev pub spot_distance : (ℕ → ℕ → ℕ) → ℕ → ℕ → ℤ → ℤ → ℕ
spot_distance distance x y a b = distance (apart x a) (apart y b)

-- what decides between two obstacles of one cell
pub record SpotKey : Type 0 where
  pub distance : ℕ
  pub column : ℤ
  pub row_difference : ℕ
  pub row : ℤ

-- obstacle (a, b) has this key, seen from cell (x, y)
abbrev pub spot_key : (ℕ → ℕ → ℕ) → ℕ → ℕ → ℤ → ℤ → SpotKey
spot_key distance x y a b =
    record {
      distance = spot_distance distance x y a b;
      column = a;
      row_difference = apart y b;
      row = b;
    }

-- one key is at most the other: by distance, obstacle's column, row difference, obstacle's row
pub record IsNoGreater (p q : SpotKey) : Type 0 where
  pub order : (p.distance < q.distance)
      ⊎ ((p.distance ≡ q.distance)
      × ((p.column <ℤ q.column)
      ⊎ ((p.column ≡ q.column)
      × ((p.row_difference < q.row_difference)
      ⊎ ((p.row_difference ≡ q.row_difference) × (p.row ≤ℤ q.row))))))

-- this obstacle has its distance from cell (x, y), and its key is the least
pub record IsNearest (distance : ℕ → ℕ → ℕ) (Obstacle : ℤ → ℤ → Type 0) (x y : ℕ) (near : Near) :
    Type 0 where
  pub obstacle : Obstacle near.cell.x near.cell.y
  pub distance_is : near.dist ≡ spot_distance distance x y near.cell.x near.cell.y
  pub least : (a b : ℤ) → Obstacle a b
      → IsNoGreater (spot_key distance x y near.cell.x near.cell.y) (spot_key distance x y a b)

-- this is the nearest obstacle of cell (x, y); none where there is no obstacle
abbrev pub IsNear : (ℕ → ℕ → ℕ) → (ℤ → ℤ → Type 0) → ℕ → ℕ → Option Near → Type 0
IsNear distance Obstacle x y None = (a b : ℤ) → Obstacle a b → ⊥
IsNear distance Obstacle x y (Some near) = IsNearest distance Obstacle x y near

-- some obstacle lies at distance d from cell (x, y)
pub record IsReached (distance : ℕ → ℕ → ℕ) (Obstacle : ℤ → ℤ → Type 0) (x y d : ℕ) : Type 0 where
  pub column : ℤ
  pub row : ℤ
  pub obstacle : Obstacle column row
  pub distance_is : spot_distance distance x y column row ≡ d

-- no obstacle lies nearer than d to cell (x, y)
abbrev pub IsLowerBound : (ℕ → ℕ → ℕ) → (ℤ → ℤ → Type 0) → ℕ → ℕ → ℕ → Type 0
IsLowerBound distance Obstacle x y d = (a b : ℤ) → Obstacle a b → d ≤ spot_distance distance x y a b

-- this is the least distance of cell (x, y) to an obstacle; none where there is no obstacle
abbrev pub IsLeastDistance : (ℕ → ℕ → ℕ) → (ℤ → ℤ → Type 0) → ℕ → ℕ → Option ℕ → Type 0
IsLeastDistance distance Obstacle x y None = (a b : ℤ) → Obstacle a b → ⊥
IsLeastDistance distance Obstacle x y (Some d) =
    IsReached distance Obstacle x y d × IsLowerBound distance Obstacle x y d
