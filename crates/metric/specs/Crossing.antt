-- Which of two columns is nearer, cell by cell along a row.
-- Source: A. Meijster, J. Roerdink, W. Hesselink, "A General Algorithm for Computing Distance
-- Transforms in Linear Time" (2000): the second phase and its separators.
use Rattle.std.specs.Prelude.{◌≡◌, ℕ, ◌+◌, ◌-◌, ◌*◌, ◌<◌, ◌≤◌, ◌↔◌, ℤ, pos, negsuc}
use Rattle.std.specs.Int.{abs_diff}
use Rattle.std.proofs.Common.{arith, subst, inl, inr}
use Rattle.std.proofs.Math.Nat.{mul-le-mul_left}
use Rattle.std.proofs.lemmas.Bool.{cases_lt}
use Rattle.metric.specs.Distance.{euclid2, city, chess}

-- the distance of the cell in column x to the obstacle of column i that lies g rows away
abbrev pub at_column : (ℕ → ℕ → ℕ) → ℕ → ℕ → ℕ → ℕ
at_column distance i g x = distance (abs_diff x i) g

-- column i is on the left and u on the right, and their obstacles lie gi and gu rows away
pub record AreColumns (i gi u gu : ℕ) : Type 0 where
  pub order : i < u
  pub within : u ≤ 4097
  pub left : gi ≤ 4097
  pub right : gu ≤ 4097

-- from the cell in column x the right one of two columns is strictly nearer
pub record IsRightNearer (distance : ℕ → ℕ → ℕ) (i gi u gu x : ℕ) : Type 0 where
  pub less : at_column distance u gu x < at_column distance i gi x

-- the right of two columns, where strictly nearer, stays so further right, up to cell 4097
abbrev pub StaysNearer : (ℕ → ℕ → ℕ) → Type 0
StaysNearer distance = (i gi u gu x z : ℕ) → AreColumns i gi u gu → x ≤ z → z ≤ 4097
    → IsRightNearer distance i gi u gu x → IsRightNearer distance i gi u gu z

-- the last cell from 0 to 4097 at which the left of two columns isn't worse; -1 where there is none
abbrev pub IsLastNotWorse : (ℕ → ℕ → ℕ) → ℕ → ℕ → ℕ → ℕ → ℤ → Type 0
IsLastNotWorse distance i gi u gu (pos last) =
    (last ≤ 4097) × (at_column distance i gi last ≤ at_column distance u gu last)
    × ((x : ℕ) → last < x → x ≤ 4097 → IsRightNearer distance i gi u gu x)
IsLastNotWorse distance i gi u gu (negsuc before) =
    (before ≡ 0) × ((x : ℕ) → x ≤ 4097 → IsRightNearer distance i gi u gu x)

-- the square of a difference, where the first number is the larger
square_above : (i d : ℕ) → d * d + 2 * ((i + d) * i) ≡ (i + d) * (i + d) + i * i
square_above i d = omega arith

-- the square of a difference, where the second number is the larger
square_below : (x d : ℕ) → d * d + 2 * (x * (x + d)) ≡ x * x + (x + d) * (x + d)
square_below x d = omega arith

-- the square of a difference and twice the product are the two squares
square_apart : (x i : ℕ) → abs_diff x i * abs_diff x i + 2 * (x * i) ≡ x * x + i * i
square_apart x i = elim (cases_lt x i) [
  | inl less ↦
      let sum : x + (i - x) ≡ i = omega arith in
      let apart : i - x ≡ abs_diff x i = omega arith in
      subst (λ (d : ℕ). d * d + 2 * (x * i) ≡ x * x + i * i) apart
      (subst (λ (n : ℕ). (i - x) * (i - x) + 2 * (x * n) ≡ x * x + n * n) sum
      (square_below x (i - x)))
  | inr more ↦
      let sum : i + (x - i) ≡ x = omega arith in
      let apart : x - i ≡ abs_diff x i = omega arith in
      subst (λ (d : ℕ). d * d + 2 * (x * i) ≡ x * x + i * i) apart
      (subst (λ (n : ℕ). (x - i) * (x - i) + 2 * (n * i) ≡ n * n + i * i) sum
      (square_above i (x - i)))
]

-- by the square, the column k to the right of i is strictly nearer where 2 k x is large enough
pub euclid2_right_nearer : (i gi k gu x : ℕ) → IsRightNearer euclid2 i gi (i + k) gu x
    ↔ ((i + k) * (i + k) + gu * gu < i * i + gi * gi + 2 * (x * k))
euclid2_right_nearer i gi k gu x =
    let left = square_apart x i in
    let right = square_apart x (i + k) in (
      λ nearer. let less = nearer.less in
          omega (arith, left, right),
      λ less. record { less = omega (arith, left, right) },
    )

-- by the square of the Euclidean distance, the right one of two columns stays nearer
pub euclid2_stays_nearer : StaysNearer euclid2
euclid2_stays_nearer i gi u gu x z columns before within nearer =
    let order = columns.order in
    let sum : i + (u - i) ≡ u = omega arith in
    let here : IsRightNearer euclid2 i gi (i + (u - i)) gu x = rw sum nearer in
    let grown : (u - i) * x ≤ (u - i) * z = mul-le-mul_left (u - i) before in
    let less = (euclid2_right_nearer i gi (u - i) gu x).0 here in
    let there : IsRightNearer euclid2 i gi (i + (u - i)) gu z =
    (euclid2_right_nearer i gi (u - i) gu z).1 (omega (arith, less, grown)) in
    rw sum at there

-- by steps to four neighbours, the right one of two columns stays nearer
pub city_stays_nearer : StaysNearer city
city_stays_nearer i gi u gu x z columns before within nearer = let less = nearer.less in
    let order = columns.order in record { less = omega arith }

-- by steps to eight neighbours, the right one of two columns stays nearer
pub chess_stays_nearer : StaysNearer chess
chess_stays_nearer i gi u gu x z columns before within nearer = let less = nearer.less in
    let order = columns.order in record { less = omega arith }
