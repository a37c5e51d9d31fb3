-- Four numbers, and their bits together.
use Rattle.std.proofs.Common.{◌≡◌, ℕ, ◌<◌, List, [], ◌∷◌, length, slice_index_or, bit_or, arith, refl}
use Rattle.std.proofs.lemmas.Nat.{le_or_l, le_or_r}

-- these four numbers have at most four digits
pub record AreShort (four : List ℕ) : Type 0 where
  pub first : slice_index_or four 0 0 < 10000
  pub second : slice_index_or four 1 0 < 10000
  pub third : slice_index_or four 2 0 < 10000
  pub last : slice_index_or four 3 0 < 10000

-- four numbers whose bits together are below 8,192 are each below it
pub AreShort-bits : (four : List ℕ)
    → bit_or (bit_or (bit_or (slice_index_or four 0 0) (slice_index_or four 1 0))
    (slice_index_or four 2 0)) (slice_index_or four 3 0) < 8192 → AreShort four
AreShort-bits four below =
    let two = bit_or (slice_index_or four 0 0) (slice_index_or four 1 0) in
    let three = bit_or two (slice_index_or four 2 0) in
    let first = le_or_l (slice_index_or four 0 0) (slice_index_or four 1 0) in
    let second = le_or_r (slice_index_or four 0 0) (slice_index_or four 1 0) in
    let both = le_or_l two (slice_index_or four 2 0) in
    let third = le_or_r two (slice_index_or four 2 0) in
    let all = le_or_l three (slice_index_or four 3 0) in
    let last = le_or_r three (slice_index_or four 3 0) in
    record {
      first = omega (arith, below, first, both, all);
      second = omega (arith, below, second, both, all);
      third = omega (arith, below, third, all);
      last = omega (arith, below, last);
    }

-- a list of four numbers has these four
pub four_items : (four : List ℕ) → length four ≡ 4
    → four ≡ slice_index_or four 0 0 ∷ slice_index_or four 1 0 ∷ slice_index_or four 2 0
    ∷ slice_index_or four 3 0 ∷ []
four_items (a ∷ b ∷ c ∷ d ∷ []) long = refl
four_items [] long = absurd (omega (arith, long))
four_items (a ∷ []) long = absurd (omega (arith, long))
four_items (a ∷ b ∷ []) long = absurd (omega (arith, long))
four_items (a ∷ b ∷ c ∷ []) long = absurd (omega (arith, long))
four_items (a ∷ b ∷ c ∷ d ∷ e ∷ more) long = absurd (omega (arith, long))
