-- The versions that are kept, each in its slot.
use Rattle.events.proofs.Names.{rules, ◌≡◌, ◌≢◌, ℕ, zero, suc, ◌<◌, ◌≤◌, ◌⊎◌, ◌==◌}
use Rattle.events.proofs.Names.{◌||◌, Bool, true, false, List, [], ◌∷◌, ◌++◌, length, map, get_or}
use Rattle.events.proofs.Names.{set, refl, ap, sym, ◌∙◌, arith, Option, inl, list_any}
use Rattle.events.proofs.Names.{cases_eq, eq-eqb, get_or-set_other, inr, Kept, Seen}
use Rattle.events.proofs.Names.{members, first_free, IsIn, with_version, asks, times, is_stay}
use Rattle.events.proofs.Names.{IsPartOfKept, slots_after, kept_after, pin_word, seen_in}
use Rattle.std.proofs.lemmas.Grind.{common_steps}
use Rattle.std.proofs.lemmas.Bool.{or_left}
use Rattle.events.proofs.accounts.TimesLemmas.{one_if, none_if}

-- one of two answers is true where the second one is
later_passes : (a b : Bool) → b ≡ true → (a || b) ≡ true
later_passes a b is = search rules

-- a version of a slot that passes a test is one of those that are kept
pub any_member : (test : ℕ → Bool) (slots : List ℕ) (i v : ℕ) → get_or slots i 0 ≡ suc v
    → test v ≡ true → list_any test (members slots) ≡ true
any_member test [] i v there is = absurd (omega arith)
any_member test (zero ∷ slots) zero v there is = absurd (omega arith)
any_member test (suc w ∷ slots) zero v there is = search (rules, or_left)
any_member test (zero ∷ slots) (suc i) v there is = any_member test slots i v there is
any_member test (suc w ∷ slots) (suc i) v there is =
    search (rules, any_member test slots i v there is, later_passes)

-- a slot has a version that passes a test
pub record IsFoundIn (test : ℕ → Bool) (slots : List ℕ) : Type 0 where
  pub slot : ℕ
  pub version : ℕ
  pub there : get_or slots slot 0 ≡ suc version
  pub passes : test version ≡ true

-- one of those that are kept has a slot
pub found_member : (test : ℕ → Bool) (slots : List ℕ) → list_any test (members slots) ≡ true
    → IsFoundIn test slots
found_member test [] is = absurd (cc)
found_member test (zero ∷ slots) is = let rest = found_member test slots is in
    record {
      slot = suc rest.slot;
      version = rest.version;
      there = rest.there;
      passes = rest.passes;
    }
found_member test (suc w ∷ slots) is =
    elim (test w) as (λ b. test w ≡ b → (b || list_any test (members slots)) ≡ true
    → IsFoundIn test (suc w ∷ slots)) [
      | true ↦ λ passes any. record { slot = 0; version = w; there = refl; passes = passes }
      | false ↦ λ fails any. let rest = found_member test slots any in
          record {
            slot = suc rest.slot;
            version = rest.version;
            there = rest.there;
            passes = rest.passes;
          }
    ] refl is

-- ---- the least free slot

-- the least free slot is free
first_free-is : (slots : List ℕ) → get_or slots (first_free slots) 0 ≡ 0
first_free-is [] = refl
first_free-is (zero ∷ slots) = refl
first_free-is (suc v ∷ slots) = first_free-is slots

-- there are no more slots before the least free one than versions
pub first_free-le : (slots : List ℕ) → first_free slots ≤ length (members slots)
first_free-le [] = omega arith
first_free-le (zero ∷ slots) = omega arith
first_free-le (suc v ∷ slots) = let rest = first_free-le slots in omega arith

-- a version that is put into the least free slot is one more
pub members-add : (slots : List ℕ) (v : ℕ) → first_free slots < length slots
    → length (members (set slots (first_free slots) (suc v))) ≡ suc (length (members slots))
members-add [] v h = absurd (omega arith)
members-add (zero ∷ slots) v h = refl
members-add (suc w ∷ slots) v h = ap suc (members-add slots v (omega arith))

-- a slot that has a version isn't the least free one
pub slot_other : (slots : List ℕ) (i v : ℕ) → get_or slots i 0 ≡ suc v → i ≢ first_free slots
slot_other slots i v there same = search (rules, first_free-is)

-- a version that is kept stays kept when another one is added
pub IsIn-add : (kept : Kept) (w v : ℕ) → IsIn kept v → IsIn (with_version kept w) v
IsIn-add kept w v h = record {
  slot = h.slot;
  there = get_or-set_other kept.slots (first_free kept.slots) h.slot (suc w) 0
      (slot_other kept.slots h.slot v h.there) ∙ h.there;
}

-- once a version is added, what a slot has is what it had, or it is the new version
pub added_at : (slots : List ℕ) (w i v : ℕ)
    → get_or (set slots (first_free slots) (suc w)) i 0 ≡ suc v → (get_or slots i 0 ≡ suc v)
    ⊎ ((i ≡ first_free slots) × (v ≡ w))
added_at slots w i v there = grind (arith, common_steps, cases_eq, get_or-set_other)

-- ---- some of the versions

-- where some of the versions are left, a slot that has a version had it before
pub part-at : (new old : List ℕ) → IsPartOfKept new old → (i v : ℕ) → get_or new i 0 ≡ suc v
    → get_or old i 0 ≡ suc v
part-at [] [] part i v there = absurd (omega arith)
part-at [] (o ∷ os) part i v there = absurd part
part-at (n ∷ ns) [] part i v there = absurd part
part-at (n ∷ ns) (o ∷ os) part zero v there = search rules
part-at (n ∷ ns) (o ∷ os) part (suc i) v there = part-at ns os part.1 i v there

-- where some of the versions are left, there are as many slots as before
pub part-long : (new old : List ℕ) → IsPartOfKept new old → length new ≡ length old
part-long [] [] part = refl
part-long [] (o ∷ os) part = absurd part
part-long (n ∷ ns) [] part = absurd part
part-long (n ∷ ns) (o ∷ os) part = ap suc (part-long ns os part.1)

-- where some of the versions are left, there are no more versions than before
pub part-few : (new old : List ℕ) → IsPartOfKept new old
    → length (members new) ≤ length (members old)
part-few [] [] part = omega arith
part-few [] (o ∷ os) part = absurd part
part-few (n ∷ ns) [] part = absurd part
part-few (zero ∷ ns) (zero ∷ os) part = part-few ns os part.1
part-few (zero ∷ ns) (suc o ∷ os) part = let rest = part-few ns os part.1 in omega arith
part-few (suc n ∷ ns) (zero ∷ os) part = search rules
part-few (suc n ∷ ns) (suc o ∷ os) part = let rest = part-few ns os part.1 in omega arith

-- ---- what a collect keeps

-- what a collect keeps was kept before
pub part-after : (newest : ℕ) (seen : List (Option Seen)) (slots : List ℕ)
    → IsPartOfKept (slots_after newest seen slots) slots
part-after newest seen [] = tt
part-after newest seen (zero ∷ slots) = (inl refl, part-after newest seen slots)
part-after newest seen (suc v ∷ slots) = search (rules, part-after newest seen slots)

-- a version that stays is in its slot after a collect
pub after-at : (newest : ℕ) (seen : List (Option Seen)) (slots : List ℕ) (i v : ℕ)
    → get_or slots i 0 ≡ suc v → is_stay newest seen v ≡ true
    → get_or (slots_after newest seen slots) i 0 ≡ suc v
after-at newest seen [] i v there stays = absurd (omega arith)
after-at newest seen (zero ∷ slots) zero v there stays = absurd (omega arith)
after-at newest seen (suc w ∷ slots) zero v there stays = search rules
after-at newest seen (zero ∷ slots) (suc i) v there stays =
    search (rules, after-at newest seen slots i v there stays)
after-at newest seen (suc w ∷ slots) (suc i) v there stays =
    search (rules, after-at newest seen slots i v there stays)

-- a slot that has a version after a collect had it before, and that version stays
pub after-only : (newest : ℕ) (seen : List (Option Seen)) (slots : List ℕ) (i v : ℕ)
    → get_or (slots_after newest seen slots) i 0 ≡ suc v → (get_or slots i 0 ≡ suc v)
    × (is_stay newest seen v ≡ true)
after-only newest seen [] i v there = absurd (omega arith)
after-only newest seen (zero ∷ slots) zero v there = absurd (omega arith)
after-only newest seen (suc w ∷ slots) zero v there = search rules
after-only newest seen (zero ∷ slots) (suc i) v there = after-only newest seen slots i v there
after-only newest seen (suc w ∷ slots) (suc i) v there = after-only newest seen slots i v there

-- a kept version that stays is kept after a collect
pub IsIn-after : (kept : Kept) (newest : ℕ) (seen : List (Option Seen)) (v : ℕ) → IsIn kept v
    → is_stay newest seen v ≡ true → IsIn (kept_after kept newest seen) v
IsIn-after kept newest seen v h stays = search (rules, after-at)

-- newest stays
pub stay-newest : (newest : ℕ) (seen : List (Option Seen)) → is_stay newest seen newest ≡ true
stay-newest newest seen = or_left (newest == newest) _ (eq-eqb newest newest refl)

-- each version that an announcement asks for stays
pub stay-asked : (newest : ℕ) (seen : List (Option Seen)) (v : ℕ)
    → list_any (λ o. asks o v) seen ≡ true → is_stay newest seen v ≡ true
stay-asked newest seen v asked = later_passes (newest == v) _ asked

-- what stays with some words stays with one more
pub stay-more : (newest : ℕ) (words : List ℕ) (word v : ℕ)
    → is_stay newest (map seen_in words) v ≡ true
    → is_stay newest (map seen_in (words ++ word ∷ [])) v ≡ true
stay-more newest words word v is = grind (arith, common_steps)

-- what the last word asks for stays
pub stay-last : (newest : ℕ) (words : List ℕ) (word v : ℕ) → asks (seen_in word) v ≡ true
    → is_stay newest (map seen_in (words ++ word ∷ [])) v ≡ true
stay-last newest words word v asked = grind (arith, common_steps, stay-asked, or_left, later_passes)

-- a word says what was announced by it
pub seen_in-pin_word : (o : Option Seen) → seen_in (pin_word o) ≡ o
unfolding seen_in pin_word
seen_in-pin_word o = search rules

-- words say what was announced by them
pub seen_in-pin_words : (seen : List (Option Seen)) → map seen_in (map pin_word seen) ≡ seen
seen_in-pin_words [] = refl
seen_in-pin_words (o ∷ os) = rw (seen_in-pin_word o, seen_in-pin_words os) refl

-- ---- members that a function is applied to

-- a version of a slot is among the kept ones that a function is applied to
pub times-member : (f : ℕ → ℕ) (slots : List ℕ) (i v n : ℕ) → get_or slots i 0 ≡ suc v → f v ≡ n
    → 1 ≤ times n (map f (members slots))
times-member f [] i v n there is = absurd (omega arith)
times-member f (zero ∷ slots) zero v n there is = absurd (omega arith)
times-member f (suc w ∷ slots) zero v n there is = search (rules, one_if)
times-member f (zero ∷ slots) (suc i) v n there is = times-member f slots i v n there is
times-member f (suc w ∷ slots) (suc i) v n there is =
    search (rules, times-member f slots i v n there is)

-- a slot has a version of which the function is this
pub record IsImage (f : ℕ → ℕ) (slots : List ℕ) (n : ℕ) : Type 0 where
  pub slot : ℕ
  pub version : ℕ
  pub there : get_or slots slot 0 ≡ suc version
  pub is : f version ≡ n

-- what is among the kept versions that a function is applied to comes from a slot
pub member-times : (f : ℕ → ℕ) (slots : List ℕ) (n : ℕ) → 1 ≤ times n (map f (members slots))
    → IsImage f slots n
member-times f [] n some = absurd (omega arith)
member-times f (zero ∷ slots) n some = let rest = member-times f slots n some in
    record { slot = suc rest.slot; version = rest.version; there = rest.there; is = rest.is }
member-times f (suc w ∷ slots) n some =
    elim (cases_eq (f w) n) [
      | inl same ↦ record { slot = 0; version = w; there = refl; is = same }
      | inr apart ↦
          let none = none_if n (f w) (λ same. apart (sym same)) in
          let rest = member-times f slots n (omega arith) in
          record { slot = suc rest.slot; version = rest.version; there = rest.there; is = rest.is }
    ]

-- ---- slot by slot

-- the first slot without a version is the least free one
pub first_free-found : (slots : List ℕ) (i : ℕ) → ((j : ℕ) → j < i → 0 < get_or slots j 0)
    → i < length slots → get_or slots i 0 ≡ 0 → i ≡ first_free slots
first_free-found [] i full h none = absurd (omega arith)
first_free-found (zero ∷ slots) zero full h none = refl
first_free-found (zero ∷ slots) (suc i) full h none =
    absurd (let first = full 0 (omega arith) in omega arith)
first_free-found (suc v ∷ slots) zero full h none = absurd (omega arith)
first_free-found (suc v ∷ slots) (suc i) full h none =
    ap suc (first_free-found slots i (λ j below. full (suc j) (omega arith)) (omega arith) none)

-- where all slots have a version there is no free one
pub first_free-none : (slots : List ℕ) → ((j : ℕ) → j < length slots → 0 < get_or slots j 0)
    → length slots ≡ first_free slots
first_free-none [] full = refl
first_free-none (zero ∷ slots) full = absurd (let first = full 0 (omega arith) in omega arith)
first_free-none (suc v ∷ slots) full =
    ap suc (first_free-none slots (λ j below. full (suc j) (omega arith)))

-- the first numbers of a list are changed
abbrev pub changed : (ℕ → ℕ) → ℕ → List ℕ → List ℕ
changed f zero xs = xs
changed f (suc i) [] = []
changed f (suc i) (x ∷ xs) = f x ∷ changed f i xs

-- changing the number after the changed ones changes one more of the first numbers
pub set-changed : (f : ℕ → ℕ) (i : ℕ) (xs : List ℕ) → i < length xs
    → set (changed f i xs) i (f (get_or (changed f i xs) i 0)) ≡ changed f (suc i) xs
set-changed f i [] h = absurd (omega arith)
set-changed f zero (x ∷ xs) h = refl
set-changed f (suc i) (x ∷ xs) h = ap (λ (ys : List ℕ). f x ∷ ys) (set-changed f i xs (omega arith))

-- a list of which as many numbers are changed as it has is changed as a whole
pub changed-all : (f : ℕ → ℕ) (i : ℕ) (xs : List ℕ) → length xs ≤ i → changed f i xs ≡ map f xs
changed-all f zero [] h = refl
changed-all f zero (x ∷ xs) h = absurd (omega arith)
changed-all f (suc i) [] h = refl
changed-all f (suc i) (x ∷ xs) h = ap (λ (ys : List ℕ). f x ∷ ys) (changed-all f i xs (omega arith))
