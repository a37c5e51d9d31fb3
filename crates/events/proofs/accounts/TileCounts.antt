-- Which tiles differ, row by row, and how many need a block, position by position.
use Rattle.events.proofs.Names.{rules, ◌≡◌, ◌≢◌, ℕ, zero, suc, ◌+◌, ◌-◌, ◌<◌, ◌≤◌, ◌==◌, ◌&&◌, []}
use Rattle.events.proofs.Names.{◌||◌, Bool, true, false, not, cond, List, ◌∷◌, ◌++◌, length, map}
use Rattle.events.proofs.Names.{take, drop, get_or, refl, ap, sym, ◌∙◌, arith, Option, Some, None}
use Rattle.events.proofs.Names.{is_some, list_any, range_with_len, cases_eq, nat_tests, take_more}
use Rattle.events.proofs.Names.{take_all, drop_more, length-map, length-map-range_with_len, inl}
use Rattle.events.proofs.Names.{get_or-map-range_with_len, inr, Cells, tile_count, row_word}
use Rattle.events.proofs.Names.{tile_differs, differing, trues, new_ones, own_list, own_positions}
use Rattle.std.proofs.lemmas.List.{length-take, get_or-map}
use mir.Val.{bool_byte}

-- a row that differs tells that the tile does
differs_at : (old new : Cells) (p a n i : ℕ) → a ≤ i → i < a + n
    → row_word old p i ≢ row_word new p i
    → list_any (λ i. not (row_word old p i == row_word new p i)) (range_with_len a n) ≡ true
differs_at old new p a zero i low high apart = absurd (omega arith)
differs_at old new p a (suc n) i low high apart =
    elim (cases_eq a i) [
      | inl same ↦ search rules
      | inr other ↦ later (row_word old p a) (row_word new p a) _
          (differs_at old new p (a + 1) n i (omega arith) (omega arith) apart)
    ]
  where
    here : (x y : ℕ) (rest : Bool) → x ≢ y → (not (x == y) || rest) ≡ true
    here x y rest apart = grind (arith, nat_tests)

    later : (x y : ℕ) (rest : Bool) → rest ≡ true → (not (x == y) || rest) ≡ true
    later x y rest is = grind (arith, nat_tests)

-- rows that are all the same tell that the tile is
same_all : (old new : Cells) (p a n : ℕ)
    → ((i : ℕ) → a ≤ i → i < a + n → row_word old p i ≡ row_word new p i)
    → list_any (λ i. not (row_word old p i == row_word new p i)) (range_with_len a n) ≡ false
same_all old new p a zero same = refl
same_all old new p a (suc n) same =
    both (row_word old p a) (row_word new p a) _ (same a (omega arith) (omega arith))
    (same_all old new p (a + 1) n (λ i low high. same i (omega arith) (omega arith)))
  where
    both : (x y : ℕ) (rest : Bool) → x ≡ y → rest ≡ false → (not (x == y) || rest) ≡ false
    both x y rest is none = grind (arith, nat_tests)

-- a tile differs where a row of it does
pub tile_differs_at : (old new : Cells) (p i : ℕ) → i < 64 → row_word old p i ≢ row_word new p i
    → true ≡ tile_differs old new p
unfolding tile_differs
tile_differs_at old new p i h apart =
    sym (differs_at old new p 0 64 i (omega arith) (omega arith) apart)

-- a tile differs nowhere where no row of it does
pub tile_differs_none : (old new : Cells) (p : ℕ)
    → ((i : ℕ) → i < 64 → row_word old p i ≡ row_word new p i) → false ≡ tile_differs old new p
unfolding tile_differs
tile_differs_none old new p same = simp (same_all)

-- another answer at the end counts where it is true
trues-push : (bs : List Bool) (b : Bool) → trues (bs ++ b ∷ []) ≡ trues bs + cond b 1 0
trues-push [] true = refl
trues-push [] false = refl
trues-push (true ∷ bs) b = omega (arith, trues-push bs b)
trues-push (false ∷ bs) b = trues-push bs b

-- there are as many answers whether a position is new as positions
length-new_ones : (ts os : List Bool) → length ts ≡ length os → length (new_ones ts os) ≡ length ts
length-new_ones [] [] same = refl
length-new_ones [] (o ∷ os) same = absurd (omega arith)
length-new_ones (t ∷ ts) [] same = absurd (omega arith)
length-new_ones (t ∷ ts) (o ∷ os) same = ap suc (length-new_ones ts os (omega arith))

-- a position is new where it is touched and hadn't changed
get_or-new_ones : (ts os : List Bool) (p : ℕ) → length ts ≡ length os → p < length ts
    → get_or (new_ones ts os) p false ≡ (get_or ts p false && not (get_or os p false))
get_or-new_ones [] os p same h = absurd (omega arith)
get_or-new_ones (t ∷ ts) [] p same h = absurd (omega arith)
get_or-new_ones (t ∷ ts) (o ∷ os) zero same h = refl
get_or-new_ones (t ∷ ts) (o ∷ os) (suc p) same h =
    get_or-new_ones ts os p (omega arith) (omega arith)

-- no more answers are true than there are
trues-le : (bs : List Bool) → trues bs ≤ length bs
trues-le [] = omega arith
trues-le (true ∷ bs) = omega (arith, trues-le bs)
trues-le (false ∷ bs) = omega (arith, trues-le bs)

-- the blocks that the positions so far need are counted
pub record IsCounted (old new : Cells) (own : List (Option ℕ)) (p needed : ℕ) : Type 0 where
  pub long : length own ≡ tile_count old
  pub count : needed ≡ trues (take p (new_ones (differing old new) (map is_some own)))

-- nothing has been counted at the start
pub counted_first : (old new : Cells) (own : List (Option ℕ)) → length own ≡ tile_count old
    → IsCounted old new own 0 0
counted_first old new own long = record { long = long; count = refl }

-- once the next position is counted, one more position is done
pub counted_next : (old new : Cells) (own : List (Option ℕ)) (p needed more : ℕ) (o : Option ℕ)
    → IsCounted old new own p needed → p < tile_count old → o ≡ get_or own p o
    → more ≡ cond (tile_differs old new p && not (is_some o)) 1 0
    → IsCounted old new own (p + 1) (needed + more)
counted_next old new own p needed more o so_far h read is =
    let ts = differing old new in
    let os = map is_some own in
    let long = so_far.long in
    let same : length ts ≡ length os = search (rules, length-map-range_with_len, length-map) in
    let wide = length-map-range_with_len (tile_differs old new) 0 (tile_count old) in
    let touched : get_or ts p false ≡ tile_differs old new p =
    search (rules, get_or-map-range_with_len) in
    let has : get_or os p false ≡ is_some o = search (rules, get_or-map) in
    let here = get_or-new_ones ts os p same (omega arith)
    ∙ (ap (λ (t : Bool). t && not (get_or os p false)) touched
    ∙ ap (λ (b : Bool). tile_differs old new p && not b) has) in
    let all = length-new_ones ts os same in
    let step = ap trues (take_more (new_ones ts os) p false (omega arith))
    ∙ trues-push (take p (new_ones ts os)) (get_or (new_ones ts os) p false) in
    let count = so_far.count in
    let one : ◌≡◌ {A = ℕ} (cond (get_or (new_ones ts os) p false) 1 0)
    (cond (tile_differs old new p && not (is_some o)) 1 0) = ap (λ (b : Bool). cond b 1 0) here in
    record { long = long; count = omega arith }

-- after the last position all is counted
pub counted_all : (old new : Cells) (own : List (Option ℕ)) (p needed : ℕ)
    → IsCounted old new own p needed → tile_count old ≤ p
    → needed ≡ trues (new_ones (differing old new) (map is_some own))
counted_all old new own p needed so_far h =
    search (rules, length-map-range_with_len, length-map, length-new_ones, take_all)

-- a count of the positions before one is at most that
pub counted_few : (old new : Cells) (own : List (Option ℕ)) (p needed : ℕ)
    → IsCounted old new own p needed → needed ≤ p
counted_few old new own p needed so_far = search (rules, trues-le, length-take)

-- an answer is counted as 1 where it is true, and as 0 where it isn't
pub as_count : (b : Bool) → bool_byte b ≡ cond b 1 0
as_count b = search rules

-- an answer counts one at most
pub as_count-le : (b : Bool) → bool_byte b ≤ 1
as_count-le b = search rules

-- the tile of this number is the one of that number among those from a position on
pub record IsLeft (own : List (Option ℕ)) (number p left : ℕ) : Type 0 where
  pub within : p ≤ length own
  pub many : length (own_list own) + left ≡ length (own_list (drop p own)) + number
  pub block : get_or (own_list own) number 0 ≡ get_or (own_list (drop p own)) left 0
  pub position : get_or (own_positions 0 own) number 0
      ≡ get_or (own_positions p (drop p own)) left 0

-- a tile without a block of its own is passed
pub left_none : (own : List (Option ℕ)) (number p left : ℕ) (o : Option ℕ)
    → IsLeft own number p left → p < length own → get_or own p o ≡ None
    → IsLeft own number (p + 1) left
left_none own number p left o so_far h is = search (rules, drop_more)

-- a tile with a block of its own is passed, and counted
pub left_some : (own : List (Option ℕ)) (number p left : ℕ) (o : Option ℕ) (b : ℕ)
    → IsLeft own number p left → p < length own → get_or own p o ≡ Some b → 0 < left
    → IsLeft own number (p + 1) (left - 1)
left_some own number p left o b so_far h is more = search (rules, drop_more)

-- each position differs, or it doesn't
pub length-differing : (old new : Cells) → length (differing old new) ≡ tile_count old
length-differing old new = length-map-range_with_len (tile_differs old new) 0 (tile_count old)
