-- How often a number stands in lists of blocks, and how long these are.
use Rattle.events.proofs.Names.{rules, ◌≡◌, ℕ, zero, suc, ◌+◌, ◌<◌, ◌≤◌, ◌==◌, Bool, true, false}
use Rattle.events.proofs.Names.{not, cond, List, [], ◌∷◌, ◌++◌, length, map, drop, replicate, ap}
use Rattle.events.proofs.Names.{get_or, refl, arith, Option, Some, None, is_some, filter, Story}
use Rattle.events.proofs.Names.{slice_get, nat_tests, trues, either, new_ones, RetiredBlock}
use Rattle.events.proofs.Names.{own_list, own_after, mapped, replaced, given_back, blocks_of, times}

-- a number that equals another counts once for it
pub one_if : (n m : ℕ) → n ≡ m → ◌≡◌ {A = ℕ} (cond (n == m) 1 0) 1
one_if n m same = grind arith

-- a number that differs from another doesn't count for it
pub none_if : (n m : ℕ) → (n ≡ m → ⊥) → ◌≡◌ {A = ℕ} (cond (n == m) 1 0) 0
none_if n m apart = grind arith

-- a number stands in two lists as often as in both
pub times-append : (n : ℕ) (xs ys : List ℕ) → times n (xs ++ ys) ≡ times n xs + times n ys
times-append n [] ys = omega arith
times-append n (x ∷ xs) ys = omega (arith, times-append n xs ys)

-- a number that stands in a list at some place stands there at least once
pub times-at : (n : ℕ) (xs : List ℕ) (i d : ℕ) → i < length xs → get_or xs i d ≡ n → 1 ≤ times n xs
times-at n [] i d h is = absurd (omega arith)
times-at n (x ∷ xs) zero d h is = grind (arith, nat_tests)
times-at n (x ∷ xs) (suc i) d h is = let rest = times-at n xs i d (omega arith) is in omega arith

-- a block freed stands in the free list as often as before, and once more
pub times-given_back : (n : ℕ) (bs free : List ℕ)
    → times n (given_back bs free) ≡ times n bs + times n free
times-given_back n [] free = omega arith
times-given_back n (b ∷ bs) free = omega (arith, times-given_back n bs (b ∷ free))

-- the free list grows by the blocks that are freed
pub length-given_back : (bs free : List ℕ) → length (given_back bs free) ≡ length bs + length free
length-given_back [] free = omega arith
length-given_back (b ∷ bs) free = omega (arith, length-given_back bs (b ∷ free))

-- the blocks of two lists of retired ones assembled are those of each list
pub blocks_of-append : (rs qs : List RetiredBlock)
    → blocks_of (rs ++ qs) ≡ blocks_of rs ++ blocks_of qs
blocks_of-append [] qs = refl
blocks_of-append (r ∷ rs) qs = ap (λ (bs : List ℕ). r.block ∷ bs) (blocks_of-append rs qs)

-- there is a block for each retired one
pub length-blocks_of : (rs : List RetiredBlock) → length (blocks_of rs) ≡ length rs
length-blocks_of [] = refl
length-blocks_of (r ∷ rs) = ap suc (length-blocks_of rs)

-- a number stands among the blocks that pass a test and among the others as often as among all
pub times-filter : (n : ℕ) (test : RetiredBlock → Bool) (rs : List RetiredBlock)
    → times n (blocks_of (filter test rs)) + times n (blocks_of (filter (λ r. not (test r)) rs))
    ≡ times n (blocks_of rs)
times-filter n test [] = refl
times-filter n test (r ∷ rs) = search (rules, times-filter n test rs, times-filter n test rs)

-- the retired blocks that pass a test and the others are as many as all
pub length-filter : (test : RetiredBlock → Bool) (rs : List RetiredBlock)
    → length (filter test rs) + length (filter (λ r. not (test r)) rs) ≡ length rs
length-filter test [] = refl
length-filter test (r ∷ rs) = search (rules, length-filter test rs, length-filter test rs)

-- the draft's own blocks are as many as the positions that have changed
pub length-own_list : (own : List (Option ℕ)) → length (own_list own) ≡ trues (map is_some own)
length-own_list [] = refl
length-own_list (None ∷ own) = omega (arith, length-own_list own)
length-own_list (Some b ∷ own) = omega (arith, length-own_list own)

-- no block is the draft's where nothing has changed
pub own_list-none : (n : ℕ) → own_list (replicate n None) ≡ []
own_list-none zero = refl
own_list-none (suc n) = own_list-none n

-- in a list without own blocks no position has changed
pub is_some-none : (n : ℕ) → map is_some (replicate {A = Option ℕ} n None) ≡ replicate n false
is_some-none zero = refl
is_some-none (suc n) = ap (λ (bs : List Bool). false ∷ bs) (is_some-none n)

-- blocks that are taken leave the free list and are the draft's
pub times-own_after : (n : ℕ) (ts : List Bool) (own : List (Option ℕ)) (free : List ℕ)
    → length ts ≡ length own
    → trues (new_ones ts (map is_some own)) ≤ length free
    → times n (own_list (own_after ts own free))
    + times n (drop (trues (new_ones ts (map is_some own))) free)
    ≡ times n (own_list own) + times n free
times-own_after n [] [] free same enough = refl
times-own_after n [] (o ∷ own) free same enough = absurd (omega arith)
times-own_after n (t ∷ ts) [] free same enough = absurd (omega arith)
times-own_after n (true ∷ ts) (Some b ∷ own) free same enough =
    let rest = times-own_after n ts own free (omega arith) enough in omega arith
times-own_after n (false ∷ ts) (Some b ∷ own) free same enough =
    let rest = times-own_after n ts own free (omega arith) enough in omega arith
times-own_after n (false ∷ ts) (None ∷ own) free same enough =
    times-own_after n ts own free (omega arith) enough
times-own_after n (true ∷ ts) (None ∷ own) [] same enough = absurd (omega arith)
times-own_after n (true ∷ ts) (None ∷ own) (b ∷ free) same enough =
    let rest = times-own_after n ts own free (omega arith) (omega arith) in omega arith

-- as many blocks are taken as are needed
pub length-own_after : (ts : List Bool) (own : List (Option ℕ)) (free : List ℕ)
    → length ts ≡ length own
    → trues (new_ones ts (map is_some own)) ≤ length free
    → length (own_list (own_after ts own free)) ≡ length (own_list own)
    + trues (new_ones ts (map is_some own))
length-own_after [] [] free same enough = refl
length-own_after [] (o ∷ own) free same enough = absurd (omega arith)
length-own_after (t ∷ ts) [] free same enough = absurd (omega arith)
length-own_after (true ∷ ts) (Some b ∷ own) free same enough =
    let rest = length-own_after ts own free (omega arith) enough in omega arith
length-own_after (false ∷ ts) (Some b ∷ own) free same enough =
    let rest = length-own_after ts own free (omega arith) enough in omega arith
length-own_after (false ∷ ts) (None ∷ own) free same enough =
    length-own_after ts own free (omega arith) enough
length-own_after (true ∷ ts) (None ∷ own) [] same enough = absurd (omega arith)
length-own_after (true ∷ ts) (None ∷ own) (b ∷ free) same enough =
    let rest = length-own_after ts own free (omega arith) (omega arith) in omega arith

-- each position has a block of the draft's, or none, as before
pub positions-own_after : (ts : List Bool) (own : List (Option ℕ)) (free : List ℕ)
    → length ts ≡ length own
    → length (own_after ts own free) ≡ length own
positions-own_after [] own free same = refl
positions-own_after (t ∷ ts) [] free same = refl
positions-own_after (true ∷ ts) (Some b ∷ own) free same =
    ap suc (positions-own_after ts own free (omega arith))
positions-own_after (false ∷ ts) (Some b ∷ own) free same =
    ap suc (positions-own_after ts own free (omega arith))
positions-own_after (false ∷ ts) (None ∷ own) free same =
    ap suc (positions-own_after ts own free (omega arith))
positions-own_after (true ∷ ts) (None ∷ own) [] same =
    ap suc (positions-own_after ts own [] (omega arith))
positions-own_after (true ∷ ts) (None ∷ own) (b ∷ free) same =
    ap suc (positions-own_after ts own free (omega arith))

-- a position has changed where it had, or where it is touched
pub is_some-own_after : (ts : List Bool) (own : List (Option ℕ)) (free : List ℕ)
    → length ts ≡ length own
    → trues (new_ones ts (map is_some own)) ≤ length free
    → either (map is_some own) ts ≡ map is_some (own_after ts own free)
is_some-own_after [] [] free same enough = refl
is_some-own_after [] (o ∷ own) free same enough = absurd (omega arith)
is_some-own_after (t ∷ ts) [] free same enough = absurd (omega arith)
is_some-own_after (true ∷ ts) (Some b ∷ own) free same enough =
    ap (λ (bs : List Bool). true ∷ bs) (is_some-own_after ts own free (omega arith) enough)
is_some-own_after (false ∷ ts) (Some b ∷ own) free same enough =
    ap (λ (bs : List Bool). true ∷ bs) (is_some-own_after ts own free (omega arith) enough)
is_some-own_after (false ∷ ts) (None ∷ own) free same enough =
    ap (λ (bs : List Bool). false ∷ bs) (is_some-own_after ts own free (omega arith) enough)
is_some-own_after (true ∷ ts) (None ∷ own) [] same enough = absurd (omega arith)
is_some-own_after (true ∷ ts) (None ∷ own) (b ∷ free) same enough =
    ap (λ (bs : List Bool). true ∷ bs) (is_some-own_after ts own free (omega arith) (omega arith))

-- a position without a block of the draft's had none before, and isn't touched
pub None-own_after : (ts : List Bool) (own : List (Option ℕ)) (free : List ℕ) (p : ℕ)
    → length ts ≡ length own
    → trues (new_ones ts (map is_some own)) ≤ length free
    → slice_get (own_after ts own free) p ≡ Some None → (slice_get own p ≡ Some None)
    × (get_or ts p true ≡ false)
None-own_after [] [] free p same enough is = absurd (cc)
None-own_after [] (o ∷ own) free p same enough is = absurd (omega arith)
None-own_after (t ∷ ts) [] free p same enough is = absurd (omega arith)
None-own_after (true ∷ ts) (Some b ∷ own) free zero same enough is = absurd (cc)
None-own_after (true ∷ ts) (Some b ∷ own) free (suc p) same enough is =
    None-own_after ts own free p (omega arith) enough is
None-own_after (false ∷ ts) (Some b ∷ own) free zero same enough is = absurd (cc)
None-own_after (false ∷ ts) (Some b ∷ own) free (suc p) same enough is =
    None-own_after ts own free p (omega arith) enough is
None-own_after (false ∷ ts) (None ∷ own) free zero same enough is = (refl, refl)
None-own_after (false ∷ ts) (None ∷ own) free (suc p) same enough is =
    None-own_after ts own free p (omega arith) enough is
None-own_after (true ∷ ts) (None ∷ own) [] p same enough is = absurd (omega arith)
None-own_after (true ∷ ts) (None ∷ own) (b ∷ free) zero same enough is = absurd (cc)
None-own_after (true ∷ ts) (None ∷ own) (b ∷ free) (suc p) same enough is =
    None-own_after ts own free p (omega arith) (omega arith) is

-- a publish maps the draft's own blocks, and retires those that they replace
pub times-mapped : (n : ℕ) (s : Story) (k : ℕ) (own : List (Option ℕ)) (blocks : List ℕ)
    → length own ≡ length blocks
    → times n (mapped own blocks) + times n (blocks_of (replaced s k own blocks))
    ≡ times n (own_list own) + times n blocks
times-mapped n s k [] [] same = refl
times-mapped n s k [] (b ∷ blocks) same = absurd (omega arith)
times-mapped n s k (o ∷ own) [] same = absurd (omega arith)
times-mapped n s k (None ∷ own) (b ∷ blocks) same =
    let rest = times-mapped n s (k + 1) own blocks (omega arith) in omega arith
times-mapped n s k (Some o ∷ own) (b ∷ blocks) same =
    let rest = times-mapped n s (k + 1) own blocks (omega arith) in omega arith

-- the new directory is as long as the old one
pub length-mapped : (own : List (Option ℕ)) (blocks : List ℕ) → length own ≡ length blocks
    → length (mapped own blocks) ≡ length blocks
length-mapped [] blocks same = refl
length-mapped (o ∷ own) [] same = refl
length-mapped (o ∷ own) (b ∷ blocks) same = ap suc (length-mapped own blocks (omega arith))

-- as many blocks retire as positions have changed
pub length-replaced : (s : Story) (k : ℕ) (own : List (Option ℕ)) (blocks : List ℕ)
    → length own ≡ length blocks
    → length (replaced s k own blocks) ≡ length (own_list own)
length-replaced s k [] [] same = refl
length-replaced s k [] (b ∷ blocks) same = refl
length-replaced s k (o ∷ own) [] same = absurd (omega arith)
length-replaced s k (None ∷ own) (b ∷ blocks) same =
    length-replaced s (k + 1) own blocks (omega arith)
length-replaced s k (Some o ∷ own) (b ∷ blocks) same =
    ap suc (length-replaced s (k + 1) own blocks (omega arith))

-- where a position hasn't changed, the new directory has newest's block
pub mapped-None : (own : List (Option ℕ)) (blocks : List ℕ) (p : ℕ) → length own ≡ length blocks
    → p < length own
    → get_or (map is_some own) p false ≡ false → get_or (mapped own blocks) p 0 ≡ get_or blocks p 0
mapped-None [] blocks p same h is = absurd (omega arith)
mapped-None (o ∷ own) [] p same h is = absurd (omega arith)
mapped-None (None ∷ own) (b ∷ blocks) zero same h is = refl
mapped-None (Some o ∷ own) (b ∷ blocks) zero same h is = absurd (cc)
mapped-None (o ∷ own) (b ∷ blocks) (suc p) same h is =
    mapped-None own blocks p (omega arith) (omega arith) is
