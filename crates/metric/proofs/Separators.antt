-- Where one column stops being as near as another, by the square of the Euclidean distance.
use Rattle.std.proofs.Common.{◌≡◌, ℕ, ◌+◌, ◌-◌, ◌*◌, ◌/◌, ◌<◌, ◌≤◌, min, pos, inl, inr, arith}
use Rattle.std.proofs.Math.Nat.{le-div_iff_mul-le, div-lt_iff_lt-mul}
use Rattle.std.proofs.lemmas.Bool.{cases_lt}
use Rattle.metric.specs.Distance.{euclid2}
use Rattle.metric.specs.Crossing.{IsRightNearer, IsLastNotWorse, at_column, euclid2_right_nearer}

-- the right column is nearer at x where, from the row's first cell, the left distance plus 2x(u -
-- i) exceeds the right one
nearer_beyond : (i gi u gu x : ℕ) → i < u → euclid2 u gu < euclid2 i gi + x * (2 * (u - i))
    → IsRightNearer euclid2 i gi u gu x
nearer_beyond i gi u gu x order beyond =
    let sum : i + (u - i) ≡ u = omega arith in
    let less : (i + (u - i)) * (i + (u - i)) + gu * gu < i * i + gi * gi + 2 * (x * (u - i)) =
    rw sum (omega (arith, beyond)) in
    rw sum at ((euclid2_right_nearer i gi (u - i) gu x).1 less)

-- the left column isn't worse at x where, from the row's first cell, its distance plus 2x(u - i) is
-- at most the right one
not_worse_within : (i gi u gu x : ℕ) → i < u → euclid2 i gi + x * (2 * (u - i)) ≤ euclid2 u gu
    → at_column euclid2 i gi x ≤ at_column euclid2 u gu x
not_worse_within i gi u gu x order within =
    elim (cases_lt (at_column euclid2 u gu x) (at_column euclid2 i gi x)) [
      | inl nearer ↦
          let sum : i + (u - i) ≡ u = omega arith in
          let here : IsRightNearer euclid2 i gi (i + (u - i)) gu x =
          rw sum (record { less = nearer }) in
          let less = rw sum at ((euclid2_right_nearer i gi (u - i) gu x).0 here) in
          absurd (omega (arith, less, within))
      | inr not_worse ↦ not_worse
    ]

-- where the right one of two columns is strictly nearer at the row's first cell, it is strictly
-- nearer at every cell
pub euclid2_behind : (i gi u gu x : ℕ) → i < u → euclid2 u gu < euclid2 i gi
    → IsRightNearer euclid2 i gi u gu x
euclid2_behind i gi u gu x order behind = nearer_beyond i gi u gu x order (omega arith)

-- where the left column isn't worse at the first cell, the quotient is the last cell at which it
-- isn't worse
pub euclid2_last : (i gi u gu : ℕ) → i < u → euclid2 i gi ≤ euclid2 u gu
    → IsLastNotWorse euclid2 i gi u gu
    (pos (min ((euclid2 u gu - euclid2 i gi) / (2 * (u - i))) 4097))
euclid2_last i gi u gu order front =
    let ahead = euclid2 u gu - euclid2 i gi in
    let some : 0 < 2 * (u - i) = omega arith in
    let within : min (ahead / (2 * (u - i))) 4097 * (2 * (u - i)) ≤ ahead =
    (le-div_iff_mul-le some).0 (omega arith) in (
      omega arith,
      not_worse_within i gi u gu (min (ahead / (2 * (u - i))) 4097) order (omega (arith, within)),
      λ x after most.
          let beyond : ahead < x * (2 * (u - i)) = (div-lt_iff_lt-mul some).0 (omega arith) in
          nearer_beyond i gi u gu x order (omega (arith, beyond)),
    )
