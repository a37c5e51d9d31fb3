-- The words that a publish stores, by number: the rows of the draft's own blocks, and the
-- directory.
use Rattle.events.proofs.Names.{rules, ◌≡◌, ℕ, zero, suc, ◌+◌, ◌*◌, ◌<◌, ◌≤◌, List, [], ◌∷◌, take}
use Rattle.events.proofs.Names.{length, Option, Some, None, get_or, refl, arith, row_word, Story}
use Rattle.events.proofs.Names.{Blocks, own_list, Base, tile_at, tile_steps, own_positions}
use Rattle.events.proofs.Names.{tile_write, map_write, write_of}

-- a row of the draft's blocks is the word of its number
pub write_of-tile : (k : Base) (s : Story) (m : Blocks) (j i : ℕ) → j < length (own_list m.own)
    → i < 64
    → write_of k s m (64 * j + i) ≡ record {
      at = tile_at k (get_or (own_list m.own) j 0) i;
      word = row_word s.draft (get_or (own_positions 0 m.own) j 0) i;
    }
unfolding tile_write
write_of-tile k s m j i hj hi = search rules

-- a word of the directory is the word of its number
pub write_of-map : (k : Base) (s : Story) (m : Blocks) (p : ℕ)
    → write_of k s m (tile_steps m + p) ≡ map_write k s m p
write_of-map k s m p = search rules

-- where a position has an own block, that is the one in the list with as many before it as there
-- are before the position
pub own_at : (own : List (Option ℕ)) (start p b : ℕ) → get_or own p None ≡ Some b
    → (length (own_list (take p own)) < length (own_list own))
    × (get_or (own_list own) (length (own_list (take p own))) 0 ≡ b)
    × (get_or (own_positions start own) (length (own_list (take p own))) 0 ≡ start + p)
own_at [] start p b is = absurd (cc)
own_at (None ∷ own) start zero b is = absurd (cc)
own_at (Some c ∷ own) start zero b is = search rules
own_at (None ∷ own) start (suc p) b is = search (rules, own_at own (start + 1) p b is)
own_at (Some c ∷ own) start (suc p) b is = search (rules, own_at own (start + 1) p b is)

-- up to and with a position there are the own blocks before it and its own, where it has one
own_next : (own : List (Option ℕ)) (p : ℕ) → p < length own
    → length (own_list (take (suc p) own)) ≡ length (own_list (take p own))
    + length (own_list (get_or own p None ∷ []))
own_next [] p h = absurd (omega arith)
own_next (None ∷ own) zero h = refl
own_next (Some b ∷ own) zero h = refl
own_next (None ∷ own) (suc p) h = own_next own p (omega arith)
own_next (Some c ∷ own) (suc p) h = let rest = own_next own p (omega arith) in omega arith

-- before the position after one there are the own blocks before that one and its own, where it has
-- one
pub own_more : (own : List (Option ℕ)) (p : ℕ) → p < length own
    → length (own_list (take (p + 1) own)) ≡ length (own_list (take p own))
    + length (own_list (get_or own p None ∷ []))
own_more own p h = search (rules, own_next)

-- there are no more own blocks before a position than positions
pub own_few : (own : List (Option ℕ)) (p : ℕ) → length (own_list (take p own)) ≤ p
own_few [] zero = omega arith
own_few [] (suc p) = omega arith
own_few (o ∷ own) zero = omega arith
own_few (None ∷ own) (suc p) = let rest = own_few own p in omega arith
own_few (Some b ∷ own) (suc p) = let rest = own_few own p in omega arith
