-- The versions that are kept, each in its slot, and which of them a collect keeps: this project's
-- own rule.
use Rattle.std.specs.Prelude.{◌≡◌, ◌⊎◌, ℕ, zero, suc, ◌==◌, ◌&&◌, ◌||◌, nat_le, min, cond, Bool}
use Rattle.std.specs.Prelude.{false, List, [], ◌∷◌, fold, map, replicate, slice_index, slice_set}
use Rattle.std.specs.Prelude.{Option, Some, None}
use Rattle.std.specs.List.{list_any}
use Rattle.events.specs.declared.kept.Kept.{Kept}
use Rattle.events.specs.declared.kept.Seen.{Seen}
use Rattle.events.specs.declared.kept.Seen.TheVariants.{From, Exact}

-- the versions in the slots, in the order of the slots
abbrev pub members : List ℕ → List ℕ
members [] = []
members (zero ∷ slots) = members slots
members (suc v ∷ slots) = v ∷ members slots

-- the least free slot; the number of slots if none is free
abbrev pub first_free : List ℕ → ℕ
first_free [] = 0
first_free (zero ∷ slots) = 0
first_free (suc v ∷ slots) = suc (first_free slots)

-- a slot has this version
pub record IsIn (kept : Kept) (v : ℕ) : Type 0 where
  pub slot : ℕ
  pub there : slice_index kept.slots slot ≡ suc v

-- at first only version 0 is kept, in slot 0
abbrev pub first_kept : Kept
first_kept = record { slots = slice_set (replicate 64 0) 0 1 }

-- one more version is kept, in the least free slot
abbrev pub with_version : Kept → ℕ → Kept
with_version kept v = record { slots = slice_set kept.slots (first_free kept.slots) (suc v) }

-- the lesser of a version and the one in a slot, if there is one
abbrev pub lowered : ℕ → ℕ → ℕ
lowered n zero = n
lowered n (suc v) = min n v

-- the least version kept, if the newest is kept
abbrev pub least_kept : ℕ → Kept → ℕ
least_kept newest kept = fold lowered newest kept.slots

-- each of these slots has what it had, or nothing
abbrev pub IsPartOfKept : List ℕ → List ℕ → Type 0
IsPartOfKept [] [] = Unit {0}
IsPartOfKept [] (o ∷ os) = ⊥
IsPartOfKept (n ∷ ns) [] = ⊥
IsPartOfKept (n ∷ ns) (o ∷ os) = ((n ≡ 0) ⊎ (n ≡ o)) × IsPartOfKept ns os

-- whether one of some versions is from the first to the last
abbrev pub is_spanned : List ℕ → ℕ → ℕ → Bool
is_spanned versions first last = list_any (λ v. nat_le first v && nat_le v last) versions

-- whether an announcement keeps a version: only its own if it is exact, else each from its own on
abbrev pub asks : Option Seen → ℕ → Bool
asks None v = false
asks (Some (From first)) v = nat_le first v
asks (Some (Exact held)) v = held == v

-- whether a version stays: the newest does, and each that an announcement keeps
abbrev pub is_stay : ℕ → List (Option Seen) → ℕ → Bool
is_stay newest seen v = (newest == v) || list_any (λ o. asks o v) seen

-- the content of a slot after a collect
abbrev pub slot_after : ℕ → List (Option Seen) → ℕ → ℕ
slot_after newest seen zero = 0
slot_after newest seen (suc v) = cond (is_stay newest seen v) (suc v) 0

-- the contents of some slots after a collect
abbrev pub slots_after : ℕ → List (Option Seen) → List ℕ → List ℕ
slots_after newest seen slots = map (slot_after newest seen) slots

-- the versions that a collect keeps
abbrev pub kept_after : Kept → ℕ → List (Option Seen) → Kept
kept_after kept newest seen = record { slots = slots_after newest seen kept.slots }

-- no version is in two slots
abbrev pub IsApart : Kept → Type 0
IsApart kept = (i j v : ℕ) → slice_index kept.slots i ≡ suc v → slice_index kept.slots j ≡ suc v
    → i ≡ j

-- each announcement is exact
abbrev pub AreExact : List (Option Seen) → Type 0
AreExact [] = Unit {0}
AreExact (None ∷ seen) = AreExact seen
AreExact (Some (From first) ∷ seen) = ⊥
AreExact (Some (Exact held) ∷ seen) = AreExact seen

-- how many readers have announced something
abbrev pub announcements : List (Option Seen) → ℕ
announcements [] = 0
announcements (None ∷ seen) = announcements seen
announcements (Some o ∷ seen) = suc (announcements seen)
