-- A distance grows with the column difference too: the law that the right one of two columns stays
-- nearer has it.
use Rattle.std.proofs.Common.{◌≡◌, ℕ, zero, suc, ◌+◌, ◌*◌, ◌<◌, ◌-◌, ◌≤◌, inl, inr, ap, arith}
use Rattle.std.specs.Int.{abs_diff}
use Rattle.std.proofs.lemmas.Bool.{cases_lt}
use Rattle.metric.specs.Distance.{Grows}
use Rattle.metric.specs.Crossing.{AreColumns, IsRightNearer, StaysNearer}

-- two columns side by side, with one gap, are columns of a map
beside : (a g : ℕ) → a < 4097 → g ≤ 4097 → AreColumns a g (a + 1) g
beside a g column row =
    record { order = omega arith; within = omega arith; left = row; right = row }

-- where its distance is less, the right one of two neighbouring columns is strictly nearer
right_nearer : (distance : ℕ → ℕ → ℕ) (a g x m n : ℕ) → abs_diff x (a + 1) ≡ m → abs_diff x a ≡ n
    → distance m g < distance n g → IsRightNearer distance a g (a + 1) g x
right_nearer distance a g x m n right left less = record { less = rw (right, left) less }

-- where the right one of two neighbouring columns is strictly nearer, its distance is less
nearer_right : (distance : ℕ → ℕ → ℕ) (a g x m n : ℕ) → abs_diff x (a + 1) ≡ m → abs_diff x a ≡ n
    → IsRightNearer distance a g (a + 1) g x → distance m g < distance n g
nearer_right distance a g x m n right left nearer = let less = nearer.less in
    rw (right, left) at less

-- a distance doesn't fall by one more column, where both columns can be mirrored within the largest
-- map
grows_near : (distance : ℕ → ℕ → ℕ) → StaysNearer distance → (a g : ℕ) → 2 * a + 1 ≤ 4097 → g ≤ 4097
    → distance a g ≤ distance (a + 1) g
grows_near distance stays a g mirrored row = elim (cases_lt (distance (a + 1) g) (distance a g)) [
  | inl less ↦
      let here = right_nearer distance a g 0 (a + 1) a (omega arith) (omega arith) less in
      let there = stays a g (a + 1) g 0 (2 * a + 1) (beside a g (omega arith) row)
      (omega arith) mirrored here in
      let back : distance a g < distance (a + 1) g =
      nearer_right distance a g (2 * a + 1) a (a + 1) (omega arith) (omega arith) there in
      absurd (omega arith)
  | inr grown ↦ grown
]

-- a distance doesn't fall by one more column
grows_step : (distance : ℕ → ℕ → ℕ) → StaysNearer distance → (a g : ℕ) → a < 4097 → g ≤ 4097
    → distance a g ≤ distance (a + 1) g
grows_step distance stays a g column row = elim (cases_lt (distance (a + 1) g) (distance a g)) [
  | inl less ↦
      let here = right_nearer distance a g 0 (a + 1) a (omega arith) (omega arith) less in
      let there = stays a g (a + 1) g 0 a (beside a g column row) (omega arith)
      (omega arith) here in
      let back : distance 1 g < distance 0 g =
      nearer_right distance a g a 1 0 (omega arith) (omega arith) there in
      let first : distance 0 g ≤ distance (0 + 1) g =
      grows_near distance stays 0 g (omega arith) row in
      let one : distance (0 + 1) g ≡ distance 1 g =
      ap (λ (n : ℕ). distance n g) (let e : 0 + 1 ≡ 1 = omega arith in e) in
      absurd (omega arith)
  | inr grown ↦ grown
]

-- a distance never decreases as the column difference grows by this many columns
grows_by : (distance : ℕ → ℕ → ℕ) → StaysNearer distance → (k a g : ℕ) → a + k ≤ 4097 → g ≤ 4097
    → distance a g ≤ distance (a + k) g
grows_by distance stays zero a g column row = let same : a + 0 ≡ a = omega arith in
    rw same (omega arith)
grows_by distance stays (suc k) a g column row =
    let before = grows_by distance stays k a g (omega arith) row in
    let step = grows_step distance stays (a + k) g (omega arith) row in
    let same : a + suc k ≡ (a + k) + 1 = omega arith in
    rw same (omega arith)

-- a distance never decreases as the column difference grows, up to the largest map's
pub of_grows_with_dx : (distance : ℕ → ℕ → ℕ) → StaysNearer distance → (a b g : ℕ) → a ≤ b
    → b ≤ 4097 → g ≤ 4097 → distance a g ≤ distance b g
of_grows_with_dx distance stays a b g order column row =
    let sum : a + (b - a) ≡ b = omega arith in
    rw sum at (grows_by distance stays (b - a) a g (omega arith) row)

-- a distance never decreases as both differences grow, up to the largest map's
pub of_grows : (distance : ℕ → ℕ → ℕ) → Grows distance → StaysNearer distance → (a b g h : ℕ)
    → a ≤ b → b ≤ 4097 → g ≤ h → h ≤ 4097 → distance a g ≤ distance b h
of_grows distance grows stays a b g h columns column rows row =
    let across = of_grows_with_dx distance stays a b g columns column (omega arith) in
    let down = grows b g h column rows row in
    omega arith
