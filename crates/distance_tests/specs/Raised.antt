-- A distance whose values are round the largest ones of 16 bits: this project's own rule.
use Rattle.std.specs.Prelude.{ℕ, ◌+◌, ◌<◌, ℤ, pos, negsuc}
use Rattle.std.proofs.Common.{arith}
use Rattle.metric.specs.Distance.{Grows, city}
use Rattle.metric.specs.Lanes.{IsSmall, Reaches, added}
use Rattle.metric.specs.Crossing.{IsLastNotWorse, IsRightNearer, StaysNearer, city_stays_nearer}
use Rattle.distance_tests.specs.Quadrupled.{no_reach}

-- 65,533 more than the number of steps to one of four neighbours over dx columns and dy rows
abbrev pub raised : ℕ → ℕ → ℕ
raised dx dy = 65533 + city dx dy

-- the raised distance never decreases as the row difference grows
pub raised_grows : Grows raised
raised_grows dx g h columns up rows = omega arith

-- if the right one of two columns is strictly nearer by steps, it is by the raised distance
pub raised_nearer : (i gi u gu x : ℕ) → IsRightNearer city i gi u gu x
    → IsRightNearer raised i gi u gu x
raised_nearer i gi u gu x nearer = let less = nearer.less in record { less = omega (arith, less) }

-- if the right one of two columns is strictly nearer by the raised distance, it is by steps
pub raised_was_nearer : (i gi u gu x : ℕ) → IsRightNearer raised i gi u gu x
    → IsRightNearer city i gi u gu x
raised_was_nearer i gi u gu x nearer = let less = nearer.less in
    record { less = omega (arith, less) }

-- by the raised distance, the right one of two columns stays nearer
pub raised_stays_nearer : StaysNearer raised
raised_stays_nearer i gi u gu x z columns before within nearer =
    raised_nearer i gi u gu z
    (city_stays_nearer i gi u gu x z columns before within
    (raised_was_nearer i gi u gu x nearer))

-- the last cell at which the left of two columns isn't worse is the same by the raised distance
pub raised_last : (i gi u gu : ℕ) (last : ℤ) → IsLastNotWorse city i gi u gu last
    → IsLastNotWorse raised i gi u gu last
raised_last i gi u gu (pos last) is = (
  is.0,
  (let most = is.1 in omega (arith, most)),
  λ x after within. raised_nearer i gi u gu x (is.2 x after within),
)
raised_last i gi u gu (negsuc before) is =
    (is.0, λ x within. raised_nearer i gi u gu x (is.1 x within))

-- a distance without a reach has nothing to satisfy for its reach
pub raised_reaches : 0 < no_reach 1 → Reaches raised no_reach
raised_reaches some = absurd (omega (arith, some))

-- a distance without a reach has nothing to satisfy for its parts
pub raised_small : 0 < no_reach 1 → IsSmall raised no_reach added
raised_small some = absurd (omega (arith, some))
