-- A distance whose values are too large for vectors of 16 bits: this project's own rule.
use Rattle.std.specs.Prelude.{ℕ, ◌*◌, ◌<◌, ℤ, pos, negsuc}
use Rattle.std.proofs.Common.{arith}
use Rattle.metric.specs.Distance.{Grows, euclid2, euclid2_grows}
use Rattle.metric.specs.Lanes.{IsSmall, Reaches, added}
use Rattle.metric.specs.Crossing.{IsLastNotWorse, IsRightNearer, StaysNearer, euclid2_stays_nearer}

-- four times the square of the Euclidean distance of two cells dx columns and dy rows apart
abbrev pub quadrupled : ℕ → ℕ → ℕ
quadrupled dx dy = 4 * euclid2 dx dy

-- four times the square of the Euclidean distance never decreases as the row difference grows
pub quadrupled_grows : Grows quadrupled
quadrupled_grows dx g h columns up rows = let grown = euclid2_grows dx g h columns up rows in
    omega (arith, grown)

-- if the right one of two columns is strictly nearer by the square, it is by four times the square
pub quadrupled_nearer : (i gi u gu x : ℕ) → IsRightNearer euclid2 i gi u gu x
    → IsRightNearer quadrupled i gi u gu x
quadrupled_nearer i gi u gu x nearer = let less = nearer.less in
    record { less = omega (arith, less) }

-- if the right one of two columns is strictly nearer by four times the square, it is by the square
pub quadrupled_was_nearer : (i gi u gu x : ℕ) → IsRightNearer quadrupled i gi u gu x
    → IsRightNearer euclid2 i gi u gu x
quadrupled_was_nearer i gi u gu x nearer = let less = nearer.less in
    record { less = omega (arith, less) }

-- by four times the square of the Euclidean distance, the right one of two columns stays nearer
pub quadrupled_stays_nearer : StaysNearer quadrupled
quadrupled_stays_nearer i gi u gu x z columns before within nearer =
    quadrupled_nearer i gi u gu z
    (euclid2_stays_nearer i gi u gu x z columns before within
    (quadrupled_was_nearer i gi u gu x nearer))

-- the last cell at which the left of two columns isn't worse is the same by four times the square
pub quadrupled_last : (i gi u gu : ℕ) (last : ℤ) → IsLastNotWorse euclid2 i gi u gu last
    → IsLastNotWorse quadrupled i gi u gu last
quadrupled_last i gi u gu (pos last) is = (
  is.0,
  (let most = is.1 in omega (arith, most)),
  λ x after within. quadrupled_nearer i gi u gu x (is.2 x after within),
)
quadrupled_last i gi u gu (negsuc before) is =
    (is.0, λ x within. quadrupled_nearer i gi u gu x (is.1 x within))

-- it has no reach in 16 bits
abbrev pub no_reach : ℕ → ℕ
no_reach dx = 0

-- a distance without a reach has nothing to satisfy for its reach
pub quadrupled_reaches : 0 < no_reach 1 → Reaches quadrupled no_reach
quadrupled_reaches some = absurd (omega (arith, some))

-- a distance without a reach has nothing to satisfy for its parts
pub quadrupled_small : 0 < no_reach 1 → IsSmall quadrupled no_reach added
quadrupled_small some = absurd (omega (arith, some))
