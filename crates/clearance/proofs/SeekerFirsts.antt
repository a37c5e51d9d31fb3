-- The first obstacle of a cell, as more of them are met.
use Rattle.std.proofs.Common.{◌≡◌, ℕ, ◌+◌, ◌-◌, Option, inl, inr, refl}
use Rattle.std.proofs.Common.{Some, None, sym, arith}
use Rattle.std.proofs.lemmas.Bool.{cases_lt}
use Rattle.std.specs.Int.{abs_diff}
use Rattle.metric.specs.Crossing.{StaysNearer}
use Rattle.metric.specs.Distance.{Grows, distance_between}
use Rattle.metric.proofs.Growing.{of_grows}
use Rattle.metric.specs.declared.rect.Rect.{Rect}
use Rattle.bits.specs.Cells.{Cells, IsObstacle}
use Rattle.clearance.specs.Nearest.{IsCellRect, IsFoundBelow}
use Rattle.clearance.specs.Search.{column_gap, rect_distance, row_gap}
use Rattle.clearance.specs.Seekers.{ComesFirst, IsBehind, IsBeyond, IsFirstKept}
use Rattle.clearance.specs.Seekers.{IsOneCell}
use Rattle.clearance.specs.Spots.{IsSpotBelow}
use Rattle.clearance.specs.declared.found.Found.{Found}
use Rattle.std.proofs.lemmas.Grind.{common_steps}
use Rattle.std.proofs.lemmas.Bool.Decides.{nat_tests}

-- once all obstacles come after it, what is kept is the first
pub IsSpotBelow-kept : (distance : ℕ → ℕ → ℕ) (cells : Cells) (rect : Rect) (limit : ℕ)
    (last : Rect) (lower : ℕ) (best : Option Found)
    → IsFirstKept distance cells rect limit last lower best
    → ((a b : ℕ) → IsObstacle cells a b → IsBehind distance last lower best a b)
    → IsSpotBelow distance (IsObstacle cells) rect limit best
IsSpotBelow-kept distance cells rect limit last lower None kept behind = λ a b obstacle.
    rw (kept.rect_is, kept.lower_is) at (behind a b obstacle)
IsSpotBelow-kept distance cells rect limit last lower (Some found) kept behind = record {
  obstacle = kept.near.obstacle;
  distance_is = kept.near.distance_is;
  nearer = kept.near.nearer;
  least = λ a b obstacle. rw (sym kept.rect_is) (behind a b obstacle);
}

-- before a search nothing is found
pub IsOneCell-none : (x y : ℕ) (rect : Rect) (limit : ℕ) → IsCellRect x y rect
    → IsOneCell rect limit None
IsOneCell-none x y rect limit is =
    let left = is.left in
    let top = is.top in
    let right = is.right in
    let bottom = is.bottom in
    record { column = omega arith; row = omega arith; limit_is = λ found some. absurd cc }

-- the distance of a cell's rectangle is that of the cell
cell_distance : (distance : ℕ → ℕ → ℕ) (x y a b : ℕ) (here : Rect) → IsCellRect x y here
    → rect_distance distance here a b ≡ distance_between distance x y a b
cell_distance distance x y a b here rect = grind (arith, nat_tests, common_steps)

-- the obstacle that comes first, seen from a cell, is its nearest
pub IsFoundBelow-spot : (distance : ℕ → ℕ → ℕ) (cells : Cells) (x y limit : ℕ) (here : Rect)
    (found : Option Found) → IsCellRect x y here
    → IsSpotBelow distance (IsObstacle cells) here limit found
    → IsFoundBelow distance (IsObstacle cells) x y limit found
IsFoundBelow-spot distance cells x y limit here None rect none = λ a b obstacle.
    rw (cell_distance distance x y a b here rect) at (none a b obstacle)
IsFoundBelow-spot distance cells x y limit here (Some found) rect first =
    grind (arith, nat_tests, common_steps)

-- what comes first is before obstacles this far, in these columns and in no fewer rows
pub IsBehind-comes : (distance : ℕ → ℕ → ℕ) → Grows distance → StaysNearer distance
    → (rect : Rect) (limit : ℕ) (best : Option Found) (dist x gap a b : ℕ)
    → IsOneCell rect limit best → dist + 1 ≡ limit → ComesFirst distance rect limit best x gap
    → IsBeyond distance rect dist x gap a b → IsBehind distance rect limit best a b
IsBehind-comes distance grows stays rect limit None dist x gap a b one is comes beyond = absurd comes
IsBehind-comes distance grows stays rect limit (Some found) dist x gap a b one is comes beyond =
    let limit_is : limit ≡ found.dist + 1 = one.limit_is found refl in
    let column = beyond.column in
    let row = beyond.row in
    let far = beyond.far in
    let right = beyond.right in
    let away = beyond.away in
    let across = one.column in
    let down = one.row in
    let edge = rect.has_cells.right in
    let bottom = rect.has_cells.bottom in
    let rows_is : row_gap rect b ≡ abs_diff rect.y0 b = omega arith in
    let own_is : row_gap rect found.cell.y ≡ abs_diff rect.y0 found.cell.y = omega arith in
    elim comes [
      | inl left ↦ grind (arith, nat_tests, common_steps)
      | inr fewer ↦ elim (cases_lt a found.cell.x) [
        | inl before ↦ elim fewer.1 [
          | inl same ↦ absurd (omega arith)
          | inr too_far ↦
              let grown = of_grows distance grows stays (rect.x0 + 1 - found.cell.x)
              (column_gap rect a) gap (row_gap rect b) (omega arith) (omega arith) away
              (omega arith) in
              record { order = inl (omega arith) }
        ]
        | inr from ↦ let first = fewer.0 in grind (arith, nat_tests, common_steps)
      ]
    ]
