-- The nearest obstacle in a column of a map with its edge: this project's own rule.
use Rattle.std.specs.Prelude.{◌≡◌, ℕ, ℤ, ◌<◌, ◌⊎◌, ◌≤ℤ◌, Option, Some, None}
use Rattle.metric.specs.Nearest.{apart}
use Rattle.metric.specs.declared.edge.Edge.{Edge}
use Rattle.bits.specs.Cells.{Cells}
use Rattle.bits.specs.Edges.{IsBlocked}

-- seen from row y, one row isn't farther than the other, and is the upper if both are equally far
pub record IsSpotRowAtMost (y : ℕ) (row other : ℤ) : Type 0 where
  pub order : (apart y row < apart y other) ⊎ ((apart y row ≡ apart y other) × (row ≤ℤ other))

-- the row of column x's obstacle nearest to row y, the upper on a tie; none if the column has none
abbrev pub IsNearestSpotRow : Cells → Edge → ℤ → ℕ → Option ℤ → Type 0
IsNearestSpotRow cells edge x y None = (b : ℤ) → IsBlocked cells edge x b → ⊥
IsNearestSpotRow cells edge x y (Some row) =
    IsBlocked cells edge x row × ((b : ℤ) → IsBlocked cells edge x b → IsSpotRowAtMost y row b)
