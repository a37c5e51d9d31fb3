-- What a contract sees of the nearest obstacles of a bitmap's row.
-- Source: A. Meijster, J. Roerdink, W. Hesselink, "A General Algorithm for Computing Distance
-- Transforms in Linear Time" (2000): the distance transform of a binary image, and its feature
-- transform with this project's rule for ties.
use Rattle.std.specs.Prelude.{◌≡◌, ℕ, ℤ, ◌<◌, List, Option, None, length}
use Rattle.std.specs.Prelude.{slice_index_or}
use Rattle.metric.specs.declared.near.Near.{Near}
use Rattle.metric.specs.Nearest.{IsNear}
use Rattle.metric.specs.declared.edge.Edge.{Edge}
use Rattle.bits.specs.Cells.{Cells}
use Rattle.bits.specs.Edges.{IsBlocked}
use Rattle.envelope.specs.Answer.{Reading, Saying}

-- the nearest obstacles of the first cells of row y, from the left, or none
pub record AreRowNears (distance : ℕ → ℕ → ℕ) (cells : Cells) (edge : Edge) (y count : ℕ)
    (nears : List (Option Near)) : Type 0 where
  pub as_many : length nears ≡ count
  pub each : (x : ℕ) → x < count
      → IsNear distance (IsBlocked cells edge) x y (slice_index_or nears x None)

-- the answers are the nearest obstacles of the first cells of row y, from the left, or none
pub record AreRowAnswers {T : Type 0} (told : Reading T) (nothing : T) (distance : ℕ → ℕ → ℕ)
    (cells : Cells) (edge : Edge) (y count : ℕ) (answers : List T) : Type 0 where
  pub as_many : length answers ≡ count
  pub each : (x : ℕ) → x < count
      → IsNear distance (IsBlocked cells edge) x y
      (told distance x y (slice_index_or answers x nothing))

-- the value says what the nearest obstacle of cell (x, y) is
pub record SaysNear {T : Type 0} (says : Saying T) (distance : ℕ → ℕ → ℕ)
    (Obstacle : ℤ → ℤ → Type 0) (x y : ℕ) (value : T) : Type 0 where
  pub near : Option Near
  pub near_is : IsNear distance Obstacle x y near
  pub said : says distance x y value near

-- the values say what the nearest obstacles of the first cells of row y are, from the left
pub record AreRowValues {T : Type 0} (says : Saying T) (unset : T) (distance : ℕ → ℕ → ℕ)
    (cells : Cells) (edge : Edge) (y count : ℕ) (values : List T) : Type 0 where
  pub as_many : length values ≡ count
  pub each : (x : ℕ) → x < count
      → SaysNear says distance (IsBlocked cells edge) x y (slice_index_or values x unset)
