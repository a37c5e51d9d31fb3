-- With which version the block of a position came.
use Rattle.events.proofs.Names.{rules, ◌≡◌, ℕ, zero, suc, ◌<◌, ◌≤◌, Bool, true, false, List, []}
use Rattle.events.proofs.Names.{◌∷◌, ◌++◌, length, get_or, refl, ap, arith, cases_eq, get_or_push}
use Rattle.events.proofs.Names.{get_or_append_left, inl, inr, Story, came, changed_before}

-- a version comes with itself where the position had changed at its publish
pub came-changed : (s : Story) (k v : ℕ) → changed_before s v k ≡ true → came s k (suc v) ≡ suc v
came-changed s k v is = rw is

-- a version comes with what the one before it came with where the position had not changed at its
-- publish
pub came-same : (s : Story) (k v : ℕ) → changed_before s v k ≡ false → came s k (suc v) ≡ came s k v
came-same s k v is = rw is

-- what holds in both cases, changed or not, holds of the version that the next version comes with
came_cases : (P : ℕ → Type 0) (s : Story) (k v : ℕ) → (changed_before s v k ≡ true → P (suc v))
    → (changed_before s v k ≡ false → P (came s k v))
    → P (came s k (suc v))
came_cases P s k v changed same = search rules

-- a version comes with itself or one before it
pub came-le : (s : Story) (k v : ℕ) → came s k v ≤ v
came-le s k zero = omega arith
came-le s k (suc v) = search (rules, came-le s k v, came_cases)

-- the next version comes with none older than the version before it does
came_grows : (s : Story) (k v : ℕ) → came s k v ≤ came s k (suc v)
came_grows s k v = search (rules, came_cases, came-le)

-- a later version comes with none older than an earlier version does
pub came_order : (s : Story) (k v w : ℕ) → v ≤ w → came s k v ≤ came s k w
came_order s k v zero h = let same : v ≡ 0 = omega arith in let at = ap (came s k) same in
    omega arith
came_order s k v (suc w) h =
    elim (cases_eq v (suc w)) [
      | inl same ↦ let at = ap (came s k) same in omega arith
      | inr apart ↦ let before = came_order s k v w (omega arith) in let more = came_grows s k w in
          omega arith
    ]

-- the versions between one and that with which it came have all come with it
pub came_between : (s : Story) (k v w : ℕ) → came s k w ≤ v → v ≤ w → came s k v ≡ came s k w
came_between s k v zero low high = let same : v ≡ 0 = omega arith in ap (came s k) same
came_between s k v (suc w) low high =
    elim (cases_eq v (suc w)) [
      | inl same ↦ ap (came s k) same
      | inr apart ↦ came_cases (λ n. n ≤ v → came s k v ≡ n) s k w (λ is low. absurd (omega arith))
          (λ is low. came_between s k v w low (omega arith)) low
    ]

-- stories with the same changes have the same versions
pub came-same_changes : (s t : Story) → t.changes ≡ s.changes → (k v : ℕ) → came t k v ≡ came s k v
came-same_changes s t same k zero = refl
came-same_changes s t same k (suc v) = search (rules, came-same_changes s t same k v)

-- a publish leaves what had changed at each publish before it
pub changed_before-push : (s t : Story) (new : List Bool) → t.changes ≡ s.changes ++ new ∷ []
    → (v k : ℕ) → v < length s.changes
    → changed_before t v k ≡ changed_before s v k
changed_before-push s t new is v k h = search (rules, get_or_append_left)

-- what had changed at the last publish is what that publish adds
pub changed_before_new : (s t : Story) (new : List Bool) → t.changes ≡ s.changes ++ new ∷ []
    → (v k : ℕ) → v ≡ length s.changes
    → changed_before t v k ≡ get_or new k false
changed_before_new s t new is v k h = search (rules, get_or_push)

-- a publish leaves with which versions those before it came
pub came-push : (s t : Story) (new : List Bool) → t.changes ≡ s.changes ++ new ∷ [] → (k v : ℕ)
    → v ≤ length s.changes → came t k v ≡ came s k v
came-push s t new is k zero h = refl
came-push s t new is k (suc v) h =
    search (rules, came-push s t new is k v (omega arith), changed_before-push)
