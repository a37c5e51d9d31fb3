-- The draft's own blocks are freed, position by position.
use Rattle.events.proofs.Names.{rules, ◌≡◌, ℕ, zero, suc, ◌+◌, ◌<◌, ◌≤◌, List, [], ◌∷◌, ◌++◌, not}
use Rattle.events.proofs.Names.{length, take, drop, get_or, set, replicate, refl, ap, arith, Some}
use Rattle.events.proofs.Names.{Option, None, filter, RetiredBlock, drop_more, take-append_seam}
use Rattle.events.proofs.Names.{own_list, given_back, blocks_of, is_used}
use Rattle.std.proofs.lemmas.Grind.{common_steps}

-- the positions before the i-th have no block
abbrev pub cleared : ℕ → List (Option ℕ) → List (Option ℕ)
cleared zero own = own
cleared (suc i) [] = []
cleared (suc i) (o ∷ own) = None ∷ cleared i own

-- the draft's own blocks at the positions before the i-th are freed
pub record IsGivenBack (own : List (Option ℕ)) (free : List ℕ) (room i : ℕ)
    (own_now : List (Option ℕ)) (free_now : List ℕ) : Type 0 where
  pub own_is : own_now ≡ cleared i own
  pub free_is : given_back (own_list (drop i own)) free_now ≡ given_back (own_list own) free
  pub fits : length free_now + length (own_list (drop i own)) ≤ room

-- no own block has been freed at the start
pub given_first : (own : List (Option ℕ)) (free : List ℕ) (room : ℕ)
    → length free + length (own_list own) ≤ room → IsGivenBack own free room 0 own free
given_first own free room fits = record { own_is = refl; free_is = refl; fits = fits }

-- a position that isn't cleared yet is as it was
pub get_or-cleared : (i : ℕ) (own : List (Option ℕ)) (o : Option ℕ)
    → get_or (cleared i own) i o ≡ get_or own i o
get_or-cleared zero own o = refl
get_or-cleared (suc i) [] o = refl
get_or-cleared (suc i) (p ∷ own) o = get_or-cleared i own o

-- where the positions before i have no block, clearing position i leaves those before i + 1 without
-- one
pub set-cleared : (i : ℕ) (own : List (Option ℕ)) → i < length own
    → set (cleared i own) i None ≡ cleared (suc i) own
set-cleared i [] h = absurd (omega arith)
set-cleared zero (o ∷ own) h = refl
set-cleared (suc i) (o ∷ own) h = search (rules, set-cleared i own (omega arith))

-- clearing each position leaves a list without blocks
pub cleared-all : (own : List (Option ℕ)) → cleared (length own) own ≡ replicate (length own) None
cleared-all [] = refl
cleared-all (o ∷ own) = ap (λ (os : List (Option ℕ)). None ∷ os) (cleared-all own)

-- the block of the next position is freed
pub given_some : (own : List (Option ℕ)) (free : List ℕ) (room i : ℕ) (own_now : List (Option ℕ))
    (free_now : List ℕ) (o : Option ℕ) (b : ℕ) → IsGivenBack own free room i own_now free_now
    → i < length own → get_or own_now i o ≡ Some b
    → IsGivenBack own free room (i + 1) (set own_now i None) (b ∷ free_now)
given_some own free room i own_now free_now o b given h is =
    search (rules, drop_more, get_or-cleared, set-cleared)

-- a next position without a block gives nothing back
pub given_none : (own : List (Option ℕ)) (free : List ℕ) (room i : ℕ) (own_now : List (Option ℕ))
    (free_now : List ℕ) (o : Option ℕ) → IsGivenBack own free room i own_now free_now
    → i < length own → get_or own_now i o ≡ None
    → IsGivenBack own free room (i + 1) (set own_now i None) free_now
given_none own free room i own_now free_now o given h is =
    search (rules, drop_more, get_or-cleared, set-cleared)

-- the free list has room for the block of the next position
pub given_room : (own : List (Option ℕ)) (free : List ℕ) (room i : ℕ) (own_now : List (Option ℕ))
    (free_now : List ℕ) (o : Option ℕ) (b : ℕ) → IsGivenBack own free room i own_now free_now
    → i < length own → get_or own_now i o ≡ Some b → length free_now < room
given_room own free room i own_now free_now o b given h is =
    let fits = (given_some own free room i own_now free_now o b given h is).fits in omega arith

-- once each position is done, no own block is left
pub given_own : (own : List (Option ℕ)) (free : List ℕ) (room i : ℕ) (own_now : List (Option ℕ))
    (free_now : List ℕ) → IsGivenBack own free room i own_now free_now → i ≡ length own
    → own_now ≡ replicate (length own) None
given_own own free room i own_now free_now given all = search (rules, cleared-all)

-- a list that is cleared where it was lent out is cleared
pub cleared_back : (n : ℕ) (own now lent rest : List (Option ℕ))
    → now ≡ replicate (length lent) None → lent ≡ own → n ≡ length own
    → take n (now ++ rest) ≡ replicate (length own) None
cleared_back n own now lent rest is same long = grind (arith, common_steps, take-append_seam)

-- the retired blocks before the i-th that no kept version maps are freed
pub record IsSwept (versions : List ℕ) (retired : List RetiredBlock) (free : List ℕ) (room i : ℕ)
    (free_now : List ℕ) : Type 0 where
  pub free_is : given_back (blocks_of (filter (λ r. not (is_used versions r)) (drop i retired)))
      free_now ≡ given_back (blocks_of (filter (λ r. not (is_used versions r)) retired)) free
  pub fits : length free_now + length (drop i retired) ≤ room
