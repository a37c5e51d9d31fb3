-- Blocks are taken from the front of the free list, position by position.
use Rattle.events.proofs.Names.{rules, ◌≡◌, ℕ, ◌+◌, ◌<◌, ◌≤◌, ◌&&◌, Bool, true, false, not, List}
use Rattle.events.proofs.Names.{[], ◌∷◌, ◌++◌, length, take, drop, map, get_or, set, refl, ap}
use Rattle.events.proofs.Names.{sym, ◌∙◌, arith, Option, Some, None, is_some, drop_more, drop_all}
use Rattle.events.proofs.Names.{take_all, length-set, length-map-range_with_len, Cells, differing}
use Rattle.events.proofs.Names.{get_or-map-range_with_len, tile_count, tile_differs, trues}
use Rattle.events.proofs.Names.{new_ones, own_after}
use Rattle.std.proofs.lemmas.Grind.{common_steps}
use Rattle.std.specs.Prelude.{option_to_list}
use Rattle.std.proofs.lemmas.List.{take_more_set, drop-set-lt}

-- this many blocks are taken
abbrev pub taken : List Bool → List (Option ℕ) → ℕ
taken ts own = trues (new_ones ts (map is_some own))

-- the positions before the i-th have taken the blocks that they need
pub record IsTaken (ts : List Bool) (own : List (Option ℕ)) (free : List ℕ) (i : ℕ)
    (own_now : List (Option ℕ)) (free_now : List ℕ) : Type 0 where
  pub long : length own_now ≡ length ts
  pub own_is : take i own_now ++ own_after (drop i ts) (drop i own_now) free_now
      ≡ own_after ts own free
  pub free_is : drop (taken (drop i ts) (drop i own_now)) free_now ≡ drop (taken ts own) free

-- no block has been taken at the start
pub taken_first : (ts : List Bool) (own : List (Option ℕ)) (free : List ℕ) → length own ≡ length ts
    → IsTaken ts own free 0 own free
taken_first ts own free long = record { long = long; own_is = refl; free_is = refl }

-- one position has the block x once it has taken what it needs, and this rest of the free list is
-- left
record IsOne (t : Bool) (o x : Option ℕ) (free rest : List ℕ) : Type 0 where
  own : (ts : List Bool) (os : List (Option ℕ))
      → own_after (t ∷ ts) (o ∷ os) free ≡ x ∷ own_after ts os rest
  left : (ts : List Bool) (os : List (Option ℕ))
      → drop (taken (t ∷ ts) (o ∷ os)) free ≡ drop (taken ts os) rest

-- a position that has a block, or isn't touched, takes none
one_none : (t : Bool) (o : Option ℕ) (free : List ℕ) → (t && not (is_some o)) ≡ false
    → IsOne t o o free free
one_none t o free is = search rules

-- dropping numbers from an empty list leaves it empty
drop_nil : (n : ℕ) → drop {A = ℕ} n [] ≡ []
drop_nil n = drop_all n [] (omega arith)

-- a position that needs a block takes the first one that is free
one_some : (t : Bool) (o x : Option ℕ) (free rest : List ℕ) → (t && not (is_some o)) ≡ true
    → free ≡ option_to_list x ++ rest → ((d : ℕ) → 0 < length free → x ≡ Some (get_or free 0 d))
    → IsOne t o x free rest
one_some false None x free rest need is some = absurd (cc)
one_some false (Some b) x free rest need is some = absurd (cc)
one_some true (Some b) x free rest need is some = absurd (cc)
one_some true None None [] rest need is some = record {
  own = λ ts os. ap (λ (fs : List ℕ). None ∷ own_after ts os fs) is;
  left = λ ts os. sym (drop_nil (taken ts os)) ∙ ap (λ (fs : List ℕ). drop (taken ts os) fs) is;
}
one_some true None None (b ∷ free) rest need is some =
    absurd (let found = some 0 (omega arith) in cc)
one_some true None (Some b) [] rest need is some = absurd (cc)
one_some true None (Some b) (c ∷ free) rest need is some =
    let head : c ≡ b = cc in
    let tail : free ≡ rest = cc in
    record {
      own = λ ts os. search rules;
      left = λ ts os. ap (λ (fs : List ℕ). drop (taken ts os) fs) tail;
    }

-- once the next position has taken what it takes, one more position is done
taken_next : (ts : List Bool) (own : List (Option ℕ)) (free : List ℕ) (i : ℕ)
    (own_now own_next : List (Option ℕ)) (free_now rest : List ℕ) (t : Bool) (o x : Option ℕ)
    → IsTaken ts own free i own_now free_now
    → i < length ts → t ≡ get_or ts i false → o ≡ get_or own_now i o → IsOne t o x free_now rest
    → length own_next ≡ length own_now → take (i + 1) own_next ≡ take i own_now ++ x ∷ []
    → drop (i + 1) own_next ≡ drop (i + 1) own_now
    → IsTaken ts own free (i + 1) own_next rest
taken_next ts own free i own_now own_next free_now rest t o x so_far h touched read one size front
    back =
    grind (arith, common_steps, drop_more)

-- a position is touched where a row of its tile differs
touched_at : (old new : Cells) (p : ℕ) → p < tile_count old
    → tile_differs old new p ≡ get_or (differing old new) p false
touched_at old new p h = search (rules, get_or-map-range_with_len)

-- a next position that needs no block takes none
pub taken_none : (old new : Cells) (own : List (Option ℕ)) (free : List ℕ) (p : ℕ)
    (own_now : List (Option ℕ)) (free_now : List ℕ) (o : Option ℕ)
    → IsTaken (differing old new) own free p own_now free_now
    → p < tile_count old → o ≡ get_or own_now p o
    → (tile_differs old new p && not (is_some o)) ≡ false
    → IsTaken (differing old new) own free (p + 1) own_now free_now
taken_none old new own free p own_now free_now o so_far h read is =
    grind (arith, common_steps, taken_next, touched_at, one_none)

-- a next position that needs a block takes the first one of the free list
pub taken_some : (old new : Cells) (own : List (Option ℕ)) (free : List ℕ) (p : ℕ)
    (own_now : List (Option ℕ)) (free_now rest : List ℕ) (o x : Option ℕ)
    → IsTaken (differing old new) own free p own_now free_now
    → p < tile_count old → o ≡ get_or own_now p o
    → (tile_differs old new p && not (is_some o)) ≡ true → free_now ≡ option_to_list x ++ rest
    → ((d : ℕ) → 0 < length free_now → x ≡ Some (get_or free_now 0 d))
    → IsTaken (differing old new) own free (p + 1) (set own_now p x) rest
taken_some old new own free p own_now free_now rest o x so_far h read is popped some =
    let wide = length-map-range_with_len (tile_differs old new) 0 (tile_count old) in
    let long = so_far.long in
    taken_next (differing old new) own free p own_now (set own_now p x) free_now rest
    (tile_differs old new p) o x so_far (omega arith) (touched_at old new p h) read
    (one_some (tile_differs old new p) o x free_now rest is popped some) (length-set own_now p x)
    (take_more_set own_now p x (omega arith)) (drop-set-lt (p + 1) own_now p x (omega arith))

-- once each position is done, the own blocks are those after the drawing
pub taken_own : (old new : Cells) (own : List (Option ℕ)) (free : List ℕ) (p : ℕ)
    (own_now : List (Option ℕ)) (free_now : List ℕ)
    → IsTaken (differing old new) own free p own_now free_now → tile_count old ≤ p
    → own_now ≡ own_after (differing old new) own free
taken_own old new own free p own_now free_now so_far h =
    search (rules, length-map-range_with_len, drop_all, take_all)

-- once each position is done, the free list has the blocks that weren't needed
pub taken_free : (old new : Cells) (own : List (Option ℕ)) (free : List ℕ) (p : ℕ)
    (own_now : List (Option ℕ)) (free_now : List ℕ)
    → IsTaken (differing old new) own free p own_now free_now → tile_count old ≤ p
    → free_now ≡ drop (trues (new_ones (differing old new) (map is_some own))) free
taken_free old new own free p own_now free_now so_far h =
    search (rules, length-map-range_with_len, drop_all)
