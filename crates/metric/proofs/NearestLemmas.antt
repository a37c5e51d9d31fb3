-- The order of keys, and what it makes of the nearest obstacle.
use Rattle.std.proofs.Common.{◌≡◌, ℕ, ◌<◌, ◌≤◌, ◌⊎◌, ℤ, ◌<ℤ◌, inl, inr, Option, Some, None, refl}
use Rattle.std.proofs.Common.{sym, ap, ◌∙◌, arith}
use Rattle.std.specs.Option.{option_map}
use Rattle.std.proofs.lemmas.Int.{ints}
use Rattle.metric.specs.declared.near.Near.{Near}
use Rattle.metric.specs.Nearest.{SpotKey, spot_key, IsLeastDistance, IsNoGreater, IsNear}

-- two natural numbers of which each comes first before the other are equal, and what decides
-- further holds both ways
first_both : {R S : Type 0} (a b : ℕ) → ((a < b) ⊎ ((a ≡ b) × R)) → ((b < a) ⊎ ((b ≡ a) × S))
    → (a ≡ b) × R × S
first_both a b (inl less) (inl more) = absurd (omega arith)
first_both a b (inl less) (inr back) = let same = back.0 in absurd (omega arith)
first_both a b (inr there) (inl more) = let same = there.0 in absurd (omega arith)
first_both a b (inr there) (inr back) = (there.0, there.1, back.1)

-- two whole numbers of which each comes first before the other are equal, and what decides further
-- holds both ways
whole_both : {R S : Type 0} (a b : ℤ) → ((a <ℤ b) ⊎ ((a ≡ b) × R)) → ((b <ℤ a) ⊎ ((b ≡ a) × S))
    → (a ≡ b) × R × S
whole_both a b (inl less) (inl more) = absurd (omega (arith, ints))
whole_both a b (inl less) (inr back) = let same = back.0 in absurd (omega (arith, ints))
whole_both a b (inr there) (inl more) = let same = there.0 in absurd (omega (arith, ints))
whole_both a b (inr there) (inr back) = (there.0, there.1, back.1)

-- two keys have the same distance, column and row
pub record AreSame (p q : SpotKey) : Type 0 where
  pub distance : p.distance ≡ q.distance
  pub column : p.column ≡ q.column
  pub row : p.row ≡ q.row

-- keys of which each is at most the other are the same
IsNoGreater-both : (p q : SpotKey) → IsNoGreater p q → IsNoGreater q p → AreSame p q
IsNoGreater-both p q there back =
    let at_distance = first_both p.distance q.distance there.order back.order in
    let at_column = whole_both p.column q.column at_distance.1 at_distance.2 in
    let at_row = first_both p.row_difference q.row_difference at_column.1 at_column.2 in
    let low = at_row.1 in
    let high = at_row.2 in
    record { distance = at_distance.0; column = at_column.0; row = omega (arith, ints) }

-- no key that is at most another has the greater distance
pub IsNoGreater-distance : (p q : SpotKey) → IsNoGreater p q → p.distance ≤ q.distance
IsNoGreater-distance p q most =
    elim most.order [ inl less ↦ omega arith | inr same ↦ let e = same.0 in omega arith ]

-- the obstacle at the spot (a, b) has this distance
abbrev near_at : ℕ → ℤ → ℤ → Near
near_at dist a b = record { dist = dist; cell = record { x = a; y = b } }

-- two nearest obstacles with one distance in one place are one
same_near : (p q : Near) → p.dist ≡ q.dist → p.cell.x ≡ q.cell.x → p.cell.y ≡ q.cell.y → p ≡ q
same_near p q dist column row =
    ap (λ (d : ℕ). near_at d p.cell.x p.cell.y) dist
    ∙ (ap (λ (a : ℤ). near_at q.dist a p.cell.y) column
    ∙ ap (λ (b : ℤ). near_at q.dist q.cell.x b) row)

-- the distance of the nearest obstacle is the least distance
pub IsNear-least : (distance : ℕ → ℕ → ℕ) (Obstacle : ℤ → ℤ → Type 0) (x y : ℕ) (near : Option Near)
    → IsNear distance Obstacle x y near
    → IsLeastDistance distance Obstacle x y (option_map (λ n. n.dist) near)
IsNear-least distance Obstacle x y None none = none
IsNear-least distance Obstacle x y (Some near) nearest = (
  record {
    column = near.cell.x;
    row = near.cell.y;
    obstacle = nearest.obstacle;
    distance_is = sym nearest.distance_is;
  },
  λ a b obstacle.
      let most = IsNoGreater-distance (spot_key distance x y near.cell.x near.cell.y)
      (spot_key distance x y a b) (nearest.least a b obstacle) in
      let dist = nearest.distance_is in
      omega arith,
)

-- a cell has one nearest obstacle, since no two obstacles have the same key
pub IsNear-one : (distance : ℕ → ℕ → ℕ) (Obstacle : ℤ → ℤ → Type 0) (x y : ℕ) (p q : Option Near)
    → IsNear distance Obstacle x y p → IsNear distance Obstacle x y q → p ≡ q
IsNear-one distance Obstacle x y None None none also = refl
IsNear-one distance Obstacle x y None (Some q) none nearest =
    absurd (none q.cell.x q.cell.y nearest.obstacle)
IsNear-one distance Obstacle x y (Some p) None nearest none =
    absurd (none p.cell.x p.cell.y nearest.obstacle)
IsNear-one distance Obstacle x y (Some p) (Some q) one other =
    let same = IsNoGreater-both (spot_key distance x y p.cell.x p.cell.y)
    (spot_key distance x y q.cell.x q.cell.y) (one.least q.cell.x q.cell.y other.obstacle)
    (other.least p.cell.x p.cell.y one.obstacle) in
    ap (λ (near : Near). Some near)
    (same_near p q (one.distance_is ∙ (same.distance ∙ sym other.distance_is)) same.column
    same.row)
