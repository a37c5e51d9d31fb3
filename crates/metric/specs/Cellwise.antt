-- The order of obstacles that are cells, whose columns and rows are natural numbers: this project's
-- own rule. It is the order of spots, restated for cells.
use Rattle.std.specs.Prelude.{◌≡◌, ℕ, ◌<◌, ◌≤◌, ◌⊎◌}
use Rattle.std.specs.Int.{abs_diff}
use Rattle.metric.specs.Distance.{distance_between}

-- what decides between two obstacles of one cell
pub record Key : Type 0 where
  pub distance : ℕ
  pub column : ℕ
  pub row_difference : ℕ
  pub row : ℕ

-- obstacle (a, b) has this key, seen from cell (x, y)
abbrev pub key_of : (ℕ → ℕ → ℕ) → ℕ → ℕ → ℕ → ℕ → Key
key_of distance x y a b =
    record {
      distance = distance_between distance x y a b;
      column = a;
      row_difference = abs_diff y b;
      row = b;
    }

-- one key is at most the other: by distance, obstacle's column, row difference, obstacle's row
pub record IsAtMost (p q : Key) : Type 0 where
  pub order : (p.distance < q.distance)
      ⊎ ((p.distance ≡ q.distance)
      × ((p.column < q.column)
      ⊎ ((p.column ≡ q.column)
      × ((p.row_difference < q.row_difference)
      ⊎ ((p.row_difference ≡ q.row_difference) × (p.row ≤ q.row))))))

-- obstacle (a, b) has the least key, and this distance, seen from cell (x, y)
pub record IsNearestCell (distance : ℕ → ℕ → ℕ) (Obstacle : ℕ → ℕ → Type 0) (x y dist a b : ℕ) :
    Type 0 where
  pub obstacle : Obstacle a b
  pub distance_is : dist ≡ distance_between distance x y a b
  pub least : (c d : ℕ) → Obstacle c d
      → IsAtMost (key_of distance x y a b) (key_of distance x y c d)
