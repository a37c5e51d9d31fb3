-- Small distances in 16 bits, as vectors hold them: this project's own rule.
use Rattle.std.specs.Prelude.{◌≡◌, ℕ, ◌+◌, ◌*◌, ◌<◌, ◌≤◌, min, max, List, slice_index}
use Rattle.std.proofs.Common.{arith, inl, inr}
use Rattle.std.proofs.Math.Nat.{mul-le-mul}
use Rattle.std.proofs.lemmas.Bool.{cases_lt}
use Rattle.metric.specs.Distance.{euclid2, city, chess}

-- a 16-bit distance joins a row difference's part and a reach, exactly below 32400, else not less
pub record IsSmall (distance : ℕ → ℕ → ℕ) (part : ℕ → ℕ) (joined : ℕ → ℕ → ℕ) : Type 0 where
  pub few : (g : ℕ) → part g ≤ 32400
  pub far : (g : ℕ) → 61438 ≤ g → part g ≡ 32400
  pub told : (dx g : ℕ) → dx ≤ 97 → g ≤ 4097
      → min 32400 (joined (part g) (distance dx 0)) ≡ min 32400 (distance dx g)
  pub at_least : (p r : ℕ) → p ≤ joined p r
  pub fits : (p r : ℕ) → p ≤ 32400 → r ≤ 9409 → joined p r < 65536
  pub reach : (dx : ℕ) → dx ≤ 97 → distance dx 0 ≤ 9409

-- a reach is the distance of the columns only
abbrev pub Reaches : (ℕ → ℕ → ℕ) → (ℕ → ℕ) → Type 0
Reaches distance reach = (dx : ℕ) → dx ≤ 97 → reach dx ≡ distance dx 0

-- each of eight numbers is at most this large
abbrev pub AreUpTo : ℕ → List ℕ → Type 0
AreUpTo most lanes = (i : ℕ) → i < 8 → slice_index lanes i ≤ most

-- the part of a row difference in the square of the Euclidean distance
abbrev pub square_part : ℕ → ℕ
square_part g = min g 180 * min g 180

-- the part of a row difference that is added, or of which the larger counts
abbrev pub plain_part : ℕ → ℕ
plain_part g = min g 32400

-- a part and a reach are added
abbrev pub added : ℕ → ℕ → ℕ
added p r = p + r

-- the larger of a part and a reach counts
abbrev pub larger : ℕ → ℕ → ℕ
larger p r = max p r

-- in 16 bits the square of the Euclidean distance is the sum of the part and the reach
pub euclid2_small : IsSmall euclid2 square_part added
euclid2_small = record {
  few = λ g. let cut : min g 180 ≤ 180 = omega arith in
      let squares : min g 180 * min g 180 ≤ 180 * 180 = mul-le-mul cut cut in omega arith;
  far = λ g large. let cut : min g 180 ≡ 180 = omega arith in rw cut (omega arith);
  told = λ dx g near row. elim (cases_lt g 180) [
    | inl less ↦ let cut : min g 180 ≡ g = omega arith in rw cut (omega arith)
    | inr more ↦
        let cut : min g 180 ≡ 180 = omega arith in
        let squares : 180 * 180 ≤ g * g = mul-le-mul more more in
        rw cut (omega arith)
  ];
  at_least = λ p r. omega arith;
  fits = λ p r small near. omega arith;
  reach = λ dx near. let squares : dx * dx ≤ 97 * 97 = mul-le-mul near near in omega arith;
}

-- in 16 bits the distance by steps to four neighbours is the sum of the part and the reach
pub city_small : IsSmall city plain_part added
city_small = record {
  few = λ g. omega arith;
  far = λ g large. omega arith;
  told = λ dx g near row. omega arith;
  at_least = λ p r. omega arith;
  fits = λ p r small near. omega arith;
  reach = λ dx near. omega arith;
}

-- in 16 bits the distance by steps to eight neighbours is the larger of the part and the reach
pub chess_small : IsSmall chess plain_part larger
chess_small = record {
  few = λ g. omega arith;
  far = λ g large. omega arith;
  told = λ dx g near row. omega arith;
  at_least = λ p r. omega arith;
  fits = λ p r small near. omega arith;
  reach = λ dx near. omega arith;
}
