-- The free list when a block goes out and when one comes in.
use Rattle.std.proofs.Common.{◌≡◌, ◌≢◌, ℕ, zero, suc, ◌+◌, ◌-◌, ◌^◌, ◌<◌, ◌≤◌, Bool, true, false}
use Rattle.std.proofs.Common.{List, [], ◌∷◌, length, get_or, set, refl, sym, ap, subst, ◌∙◌, arith}
use Rattle.std.proofs.lemmas.List.{get_or-set_same, get_or-set_other}
use Rattle.std.proofs.Math.Nat.{not-suc-le-zero}
use Rattle.std.specs.List.{range_with_len, All}
use Rattle.std.specs.Prelude.{◌⊎◌}
use Rattle.std.proofs.Common.{inl, inr, ⊎_elim}
use Rattle.std.proofs.Math.ListN.{length-set}
use Rattle.arena.specs.Blocks.{Content, out, bare, held, IsHeld}
use Rattle.arena.specs.Chain.{link_of, next, chain, here, NotIn, Linked, in_count, IsArena, Filled}

-- a number at which a block is in is below the count of blocks
is_here : (bs : List Content) (k : ℕ) → here (get_or bs k out) ≡ true → k < length bs
is_here [] k e = absurd (false_true e)
  where
    false_true : false ≡ true → ⊥
    false_true e = subst (λ (b : Bool). elim b as (λ _. Type 0) [ false ↦ Unit {0} | true ↦ ⊥ ]) e
        tt
is_here (c ∷ bs) zero e = omega arith
is_here (c ∷ bs) (suc k) e = let below = is_here bs k e in omega arith

-- false isn't true
not_both : false ≡ true → ⊥
not_both e = subst (λ (b : Bool). elim b as (λ _. Type 0) [ false ↦ Unit {0} | true ↦ ⊥ ]) e tt

-- the chain stays as it is where a block that isn't on it changes
chain-set : (bs : List Content) (f n k : ℕ) (c : Content) → NotIn k (chain bs f n)
    → chain (set bs k c) f n ≡ chain bs f n
chain-set bs f zero k c gone = refl
chain-set bs f (suc n) k c gone =
    grind (arith, get_or-set_other, chain-set bs (next bs f) n k c gone.1)

-- the blocks of a chain stay in, and none twice, where a block that isn't on it changes
linked-set : (bs : List Content) (f n k : ℕ) (c : Content) → NotIn k (chain bs f n) → Linked bs f n
    → Linked (set bs k c) f n
linked-set bs f zero k c gone l = l
linked-set bs f (suc n) k c gone l =
    grind (arith, get_or-set_other, chain-set, linked-set bs (next bs f) n k c gone.1 l.2)

-- a block that is gone isn't on the chain
out_not_in : (bs : List Content) (f n k : ℕ) → get_or bs k out ≡ out → Linked bs f n
    → NotIn k (chain bs f n)
out_not_in bs f zero k gone l = tt
out_not_in bs f (suc n) k gone l = (
  λ e. not_both (sym (ap here (ap (λ (j : ℕ). get_or bs j out) (sym e) ∙ gone)) ∙ l.0),
  out_not_in bs (next bs f) n k gone l.2,
)

-- where there are at most 16,384 blocks, the front of the free list is at most 16,384
front_small : (bs : List Content) (f n : ℕ) → length bs ≤ 16384 → Linked bs f n → f ≤ 16384
front_small bs f zero few l = l
front_small bs f (suc n) few l = let inside = is_here bs f l.0 in omega arith

-- one block fewer is in once a block that was in is out
count-out : (bs : List Content) (k : ℕ) → here (get_or bs k out) ≡ true
    → suc (in_count (set bs k out)) ≡ in_count bs
count-out [] k e = absurd (not_both e)
count-out (out ∷ bs) zero e = absurd (not_both e)
count-out (bare ∷ bs) zero e = absurd (not_both e)
count-out (held ws ∷ bs) zero e = refl
count-out (out ∷ bs) (suc k) e = count-out bs k e
count-out (bare ∷ bs) (suc k) e = count-out bs k e
count-out (held ws ∷ bs) (suc k) e = ap suc (count-out bs k e)

-- a further block is in once a block that was out is in
count-in : (bs : List Content) (k : ℕ) (ws : List ℕ) → k < length bs → get_or bs k out ≡ out
    → in_count (set bs k (held ws)) ≡ suc (in_count bs)
count-in [] k ws l e = absurd (let no : k < 0 = l in omega arith)
count-in (out ∷ bs) zero ws l e = refl
count-in (bare ∷ bs) zero ws l e = refl
count-in (held vs ∷ bs) zero ws l e = absurd (not_both (sym (ap here e)))
count-in (out ∷ bs) (suc k) ws l e =
    count-in bs k ws (let up : suc k < suc (length bs) = l in omega arith) e
count-in (bare ∷ bs) (suc k) ws l e =
    count-in bs k ws (let up : suc k < suc (length bs) = l in omega arith) e
count-in (held vs ∷ bs) (suc k) ws l e =
    ap suc (count-in bs k ws (let up : suc k < suc (length bs) = l in omega arith) e)

-- no more blocks are in than there are
count-few : (bs : List Content) → in_count bs ≤ length bs
count-few [] = omega arith
count-few (out ∷ bs) = let below = count-few bs in omega arith
count-few (bare ∷ bs) = let below = count-few bs in omega arith
count-few (held ws ∷ bs) = let below = count-few bs in omega arith

-- a chain of n blocks has n numbers
pub chain-length : (bs : List Content) (f n : ℕ) → length (chain bs f n) ≡ n
chain-length bs f zero = refl
chain-length bs f (suc n) = ap suc (chain-length bs (next bs f) n)

module _ (bs : List Content) (f n : ℕ) (a : IsArena bs f n) where
  -- an arena has at most 16,384 free blocks
  pub room_left : n ≤ 16384
  room_left = let c = count-few bs in let few = a.few in let counted = a.counted in omega arith

  module _ (some : n ≢ 0) where
    -- the front of a free list that isn't empty is a block with words
    pub front_in : (ws : List ℕ) × (get_or bs f out ≡ held ws)
    front_in = at_some n some a.linked
      where
        words_of : (c : Content) → here c ≡ true → (ws : List ℕ) × (c ≡ held ws)
        words_of out e = absurd (not_both e)
        words_of bare e = absurd (not_both e)
        words_of (held ws) e = (ws, refl)

        at_some : (m : ℕ) → m ≢ 0 → Linked bs f m → (ws : List ℕ) × (get_or bs f out ≡ held ws)
        at_some zero s l = absurd (s refl)
        at_some (suc m) s l = words_of (get_or bs f out) l.0

  module _ (some : n ≢ 0) (ws : List ℕ) (is : get_or bs f out ≡ held ws) where
    -- the chain after the front stays linked once the front is out
    take_linked : (m : ℕ) → m ≢ 0 → Linked bs f m → Linked (set bs f out) (get_or ws 0 0) (m - 1)
    take_linked zero s l = absurd (s refl)
    take_linked (suc m) s l = grind (arith, linked-set)

    -- a front with words is in
    front_here : here (get_or bs f out) ≡ true
    front_here = ap here is

    -- an arena whose front goes out is an arena with one free block fewer
    pub take_whole : (bs' : List Content) → bs' ≡ set bs f out → IsArena bs' (get_or ws 0 0) (n - 1)
    take_whole bs' e = grind (arith, take_linked, count-out, front_here, length-set)

    -- a chain is its front and the chain that is left once the front is out
    take_chain : (m : ℕ) → m ≢ 0 → Linked bs f m
        → chain bs f m ≡ f ∷ chain (set bs f out) (get_or ws 0 0) (m - 1)
    take_chain zero s l = absurd (s refl)
    take_chain (suc m) s l = grind (arith, chain-set)

    -- the free list is its front and the free list that is left once the front is out
    pub take_gives : (bs' : List Content) → bs' ≡ set bs f out
        → chain bs f n ≡ f ∷ chain bs' (get_or ws 0 0) (n - 1)
    take_gives bs' e = take_chain n some a.linked
        ∙ ap (λ (cs : List Content). f ∷ chain cs (get_or ws 0 0) (n - 1)) (sym e)

    -- the number of the block after the front fits in 32 bits
    pub take_fits : get_or ws 0 0 < 2 ^ 32
    take_fits = grind (arith, take_whole, front_small)

  module _ (k : ℕ) (ws : List ℕ) (inside : k < length bs) (gone : get_or bs k out ≡ out)
      (links : get_or ws 0 0 ≡ f) where
    -- block k has come in, with these words
    abbrev after : List Content
    after = set bs k (held ws)

    -- the block that has come in links to the front of the free list
    onward : next after k ≡ f
    onward = ap link_of (get_or-set_same bs k (held ws) out inside) ∙ links

    -- the block that comes in isn't on the free list
    off : NotIn k (chain bs f n)
    off = out_not_in bs f n k gone a.linked

    -- an arena into which a block comes as the front is an arena with one free block more
    pub give_whole : (bs' : List Content) (m : ℕ) → bs' ≡ set bs k (held ws) → m ≡ suc n
        → IsArena bs' k m
    give_whole bs' m e e' =
        grind (arith, get_or-set_same, onward, chain-set, off, linked-set, count-in, length-set)

    -- the free list is the block that has come in and the free list that was there before
    pub give_gives : (bs' : List Content) (m : ℕ) → bs' ≡ set bs k (held ws) → m ≡ suc n
        → chain bs' k m ≡ k ∷ chain bs f n
    give_gives bs' m e e' = (λ i. chain (e i) k (e' i)) ∙ ap (λ (g : ℕ). k ∷ chain after g n) onward
        ∙ ap (λ (xs : List ℕ). k ∷ xs) (chain-set bs f n k (held ws) off)

-- a number that isn't above another one equals it or is below it
either : (k d : ℕ) → k < suc d → (k ≡ d) ⊎ (k < d)
either zero zero l = inl refl
either zero (suc d) l = inr (omega arith)
either (suc k) zero l = absurd (let no : suc k < 1 = l in omega arith)
either (suc k) (suc d) l =
    grind (arith, either k d (let up : suc k < suc (suc d) = l in omega arith))

module _ (bs : List Content) (done count : ℕ) (f : Filled bs done count)
    (under : done < count) where
  -- the first block that isn't filled yet holds nothing
  pub next_bare : get_or bs done out ≡ bare
  next_bare = f.above done (omega arith) under

  -- once the next block is filled with a link to the one after it, one more block is filled
  pub one_filled : (bs' : List Content) (ws : List ℕ) (m : ℕ) → bs' ≡ set bs done (held ws)
      → get_or ws 0 0 ≡ suc done → m ≡ suc done → Filled bs' m count
  one_filled bs' ws m e link e' = subst (λ (cs : List Content). Filled cs m count) (sym e)
      (subst (λ (j : ℕ). Filled (set bs done (held ws)) j count) (sym e') (record {
        long = length-set bs done (held ws) ∙ f.long;
        below = λ k l. ⊎_elim
            (λ same. (
              ws,
              ap (λ (j : ℕ). get_or (set bs done (held ws)) j out) same
                  ∙ get_or-set_same bs done (held ws) out (let long = f.long in omega arith),
              link
                  ∙ ap suc (sym same),
            ))
            (λ less. let was = f.below k less in (
              was.0,
              get_or-set_other bs done k (held ws) out
                  (λ e. let no : k ≡ done = e in omega arith) ∙ was.1,
              was.2,
            )) (either k done l);
        above = λ k l l'. get_or-set_other bs done k (held ws) out
            (λ e. let no : k ≡ done = e in omega arith) ∙ f.above k (omega arith) l';
      }))

-- where each block is in, as many are in as there are
count-all : (bs : List Content) → ((k : ℕ) → k < length bs → here (get_or bs k out) ≡ true)
    → in_count bs ≡ length bs
count-all [] all = refl
count-all (out ∷ bs) all =
    absurd (not_both (all 0 (let up : 0 < suc (length bs) = omega arith in up)))
count-all (bare ∷ bs) all =
    absurd (not_both (all 0 (let up : 0 < suc (length bs) = omega arith in up)))
count-all (held ws ∷ bs) all =
    ap suc
    (count-all bs (λ k l. all (suc k) (let up : suc k < suc (length bs) = omega arith in up)))

-- where as many blocks are in as there are, each is
pub all_in : (bs : List Content) → in_count bs ≡ length bs → All IsHeld bs
all_in [] e k d l = absurd (not-suc-le-zero l)
all_in (out ∷ bs) e k d l = grind (arith, count-few)
all_in (bare ∷ bs) e k d l = grind (arith, count-few)
all_in (held ws ∷ bs) e zero d l = tt
all_in (held ws ∷ bs) e (suc k) d l =
    all_in bs (let same : suc (in_count bs) ≡ suc (length bs) = e in omega arith) k d
    (let up : suc k < suc (length bs) = l in omega arith)

module _ (bs : List Content) (count : ℕ) (f : Filled bs count count) (few : count ≤ 16384) where
  -- where all blocks are filled, each links to the next one
  steps : (k : ℕ) → k < count → next bs k ≡ k + 1
  steps k l = let is = f.below k l in
      ap link_of is.1 ∙ is.2 ∙ (let more : suc k ≡ k + 1 = omega arith in more)

  -- where all blocks are filled, the chain from block k to the end is the numbers from k on
  whole_from : (n k : ℕ) → k + n ≡ count → chain bs k n ≡ range_with_len k n
  whole_from zero k e = refl
  whole_from (suc n) k e = grind (arith, steps, whole_from n (k + 1) (omega arith))

  -- a number below k isn't one of the numbers from k on
  above_not_in : (j n k : ℕ) → j < k → NotIn j (range_with_len k n)
  above_not_in j zero k l = tt
  above_not_in j (suc n) k l = grind (arith, above_not_in j n (k + 1) (omega arith))

  -- where all blocks are filled, the chain from block k to the end is linked
  whole_linked : (n k : ℕ) → k + n ≡ count → Linked bs k n
  whole_linked zero k e = omega arith
  whole_linked (suc n) k e =
      let onward = sym (steps k (omega arith)) in (
        ap here (f.below k (omega arith)).1,
        subst (λ (j : ℕ). NotIn k (chain bs j n)) onward
            (subst (NotIn k) (sym (whole_from n (k + 1) (omega arith)))
            (above_not_in k n (k + 1) (omega arith))),
        subst (λ (j : ℕ). Linked bs j n) onward (whole_linked n (k + 1) (omega arith)),
      )

  -- where all blocks are filled, the free list has all numbers in their order
  pub whole_chain : chain bs 0 count ≡ range_with_len 0 count
  whole_chain = whole_from count 0 (omega arith)

  -- where all blocks are filled, they make an arena in which all are free
  pub whole_arena : IsArena bs 0 count
  whole_arena = record {
    linked = whole_linked count 0 (omega arith);
    counted = count-all bs (λ k l. ap here (f.below k (let long = f.long in omega arith)).1)
        ∙ f.long;
    few = (let long = f.long in omega arith);
  }

-- what the return of a block gives
pub ruleset giving = (room_left, give_gives, get_or-set_same)
