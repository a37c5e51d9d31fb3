-- What a collect keeps: newest, what is announced exactly, and what was kept from each other
-- announcement on; and how many that is.
use Rattle.events.proofs.Names.{rules, ◌≡◌, ℕ, zero, suc, ◌+◌, ◌≤◌, ◌==◌, ◌||◌, Bool, true, false}
use Rattle.events.proofs.Names.{cond, List, [], ◌∷◌, length, get_or, refl, arith, Option, Some}
use Rattle.events.proofs.Names.{None, Contains, list_any, cases_eq, nat_tests, list_any_at, inl}
use Rattle.events.proofs.Names.{inr, Kept, Seen, From, Exact, members, IsIn, asks, is_stay}
use Rattle.events.proofs.Names.{slots_after, kept_after, IsApart, announcements}
use Rattle.std.proofs.lemmas.Grind.{common_steps}
use Rattle.events.specs.Kept.{AreExact}
use Rattle.events.proofs.logs.KeptLemmas.{IsIn-after, stay-newest, stay-asked}
use Rattle.events.proofs.accounts.TimesLemmas.{one_if, none_if}

-- newest is kept
pub newest_after : (kept : Kept) (newest : ℕ) (seen : List (Option Seen)) → IsIn kept newest
    → IsIn (kept_after kept newest seen) newest
newest_after kept newest seen h = IsIn-after kept newest seen newest h (stay-newest newest seen)

-- what one of the announcements keeps stays
asked_by : (seen : List (Option Seen)) (o : Option Seen) (v : ℕ) → Contains seen o → asks o v ≡ true
    → list_any (λ p. asks p v) seen ≡ true
asked_by seen o v there is = search (rules, list_any_at)

-- a version that is announced exactly is kept
pub exact_after : (kept : Kept) (newest : ℕ) (seen : List (Option Seen)) (v : ℕ)
    → Contains seen (Some (Exact v)) → IsIn kept v → IsIn (kept_after kept newest seen) v
exact_after kept newest seen v there h = grind (arith, common_steps, stay-asked, asked_by)

-- a collect keeps each kept version from an announced one on, where the announcement isn't exact
pub from_after : (kept : Kept) (newest : ℕ) (seen : List (Option Seen)) (a v : ℕ)
    → Contains seen (Some (From a)) → a ≤ v → IsIn kept v → IsIn (kept_after kept newest seen) v
from_after kept newest seen a v there low h =
    grind (arith, common_steps, IsIn-after, stay-asked, asked_by, nat_tests)

-- this many versions pass a test
abbrev pub count_where : (ℕ → Bool) → List ℕ → ℕ
count_where test [] = 0
count_where test (zero ∷ slots) = count_where test slots
count_where test (suc v ∷ slots) = cond (test v) 1 0 + count_where test slots

-- as many versions are kept as stay
members-after : (newest : ℕ) (seen : List (Option Seen)) (slots : List ℕ)
    → length (members (slots_after newest seen slots)) ≡ count_where (is_stay newest seen) slots
members-after newest seen [] = refl
members-after newest seen (zero ∷ slots) = members-after newest seen slots
members-after newest seen (suc v ∷ slots) = search (rules, members-after newest seen slots)

-- no more versions pass one of two tests than pass each of them, added up
count-or : (a b : ℕ → Bool) (slots : List ℕ)
    → count_where (λ v. a v || b v) slots ≤ count_where a slots + count_where b slots
count-or a b [] = omega arith
count-or a b (zero ∷ slots) = count-or a b slots
count-or a b (suc v ∷ slots) = search (rules, count-or a b slots)

-- a version that no slot has is counted not once
count-none : (x : ℕ) (slots : List ℕ) → ((i : ℕ) → get_or slots i 0 ≡ suc x → ⊥)
    → count_where (λ v. x == v) slots ≡ 0
count-none x [] none = refl
count-none x (zero ∷ slots) none = count-none x slots (λ i. none (suc i))
count-none x (suc v ∷ slots) none = let rest = count-none x slots (λ i. none (suc i)) in
    let here = none_if x v (λ same. none 0 (omega arith)) in omega arith

-- a version that stands in one slot at most is counted once at most
count-one : (x : ℕ) (slots : List ℕ)
    → ((i j v : ℕ) → get_or slots i 0 ≡ suc v → get_or slots j 0 ≡ suc v → i ≡ j)
    → count_where (λ v. x == v) slots ≤ 1
count-one x [] apart = omega arith
count-one x (zero ∷ slots) apart =
    count-one x slots (λ i j v a b. let same = apart (suc i) (suc j) v a b in omega arith)
count-one x (suc v ∷ slots) apart =
    elim (cases_eq x v) [
      | inl same ↦
          let none = count-none x slots (λ i there. let at =
          apart 0 (suc i) x (omega arith) there in absurd (omega arith)) in
          let here = one_if x v same in
          omega arith
      | inr other ↦
          let rest = count-one x slots (λ i j w a b. let same = apart (suc i) (suc j) w a b in
          omega arith) in
          let here = none_if x v other in
          omega arith
    ]

-- no version passes a test that is always false
count-nothing : (slots : List ℕ) → count_where (λ v. false) slots ≡ 0
count-nothing [] = refl
count-nothing (zero ∷ slots) = count-nothing slots
count-nothing (suc v ∷ slots) = let rest = count-nothing slots in omega arith

-- exact announcements keep one version each at most
count-asked : (seen : List (Option Seen)) (slots : List ℕ) → AreExact seen
    → ((i j v : ℕ) → get_or slots i 0 ≡ suc v → get_or slots j 0 ≡ suc v → i ≡ j)
    → count_where (λ v. list_any (λ o. asks o v) seen) slots ≤ announcements seen
count-asked [] slots exact apart = let none = count-nothing slots in omega arith
count-asked (None ∷ seen) slots exact apart = count-asked seen slots exact apart
count-asked (Some (From a) ∷ seen) slots exact apart = absurd exact
count-asked (Some (Exact w) ∷ seen) slots exact apart =
    let rest = count-asked seen slots exact apart in
    let here = count-one w slots apart in
    let both = count-or (λ v. w == v) (λ v. list_any (λ o. asks o v) seen) slots in
    omega arith

-- where all announcements are exact, one more version is kept at most
pub few_after : (kept : Kept) (newest : ℕ) (seen : List (Option Seen)) → IsApart kept
    → AreExact seen → length (members (kept_after kept newest seen).slots) ≤ 1 + announcements seen
few_after kept newest seen apart exact =
    let all = members-after newest seen kept.slots in
    let both = count-or (λ v. newest == v) (λ v. list_any (λ o. asks o v) seen) kept.slots in
    let one = count-one newest kept.slots apart in
    let asked = count-asked seen kept.slots exact apart in
    omega arith
