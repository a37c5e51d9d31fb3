-- What holds after a legal log holds after a paint, a stamp or a revert: these change the draft and
-- its own blocks alone.
use Rattle.events.proofs.Names.{rules, ◌≡◌, ℕ, zero, suc, ◌+◌, ◌<◌, ◌≤◌, ◌==◌, ◌||◌, Bool, true}
use Rattle.events.proofs.Names.{false, not, List, [], ◌∷◌, length, map, drop, replicate, ap, refl}
use Rattle.events.proofs.Names.{get_or, subst, sym, ◌∙◌, arith, Option, Some, None, is_some, inl}
use Rattle.events.proofs.Names.{slice_get, list_any, range_with_len, cases_lt, cases_eq, inr}
use Rattle.events.proofs.Names.{nat_tests, length-drop, length-map, length-replicate, Cells, kept}
use Rattle.events.proofs.Names.{length-map-range_with_len, get_or-map-range_with_len, tile_count}
use Rattle.events.proofs.Names.{row_word, IsBitmap-cells_where, Command, drawn, touched, Story}
use Rattle.events.proofs.Names.{tile_differs, newest, bitmap_of, IsKept, trues, either, new_ones}
use Rattle.events.proofs.Names.{inuse, needed, after_draw, Blocks, directory_of, Base, own_list}
use Rattle.events.proofs.Names.{own_after, drawn_blocks, given_back, tiles, times, IsOfMap, IsTidy}
use Rattle.events.specs.Legal.{refused_draw}
use Rattle.events.proofs.accounts.CameLemmas.{came-same_changes}
use Rattle.events.proofs.accounts.RetiredLemmas.{All-each}
use Rattle.events.proofs.accounts.UsedLemmas.{inuse_is}
use Rattle.events.proofs.accounts.TimesLemmas.{times-append, times-own_after, length-own_after}
use Rattle.events.proofs.accounts.TimesLemmas.{positions-own_after, is_some-own_after}
use Rattle.events.proofs.accounts.TimesLemmas.{None-own_after, length-own_list, own_list-none}
use Rattle.events.proofs.accounts.TimesLemmas.{is_some-none, times-given_back, length-given_back}

-- a bitmap of the map's size has as many tiles
pub tile_count-of_map : (k : Base) (b : Cells) → IsOfMap k b → tile_count b ≡ tiles k
tile_count-of_map k b h = search rules

-- the blocks that aren't in use are free
pub free_is : (k : Base) (s : Story) (m : Blocks) → IsTidy k s m
    → length m.free + inuse s ≡ k.setting.blocks
free_is k s m tidy = search (rules, inuse_is, tile_count-of_map, length-own_list)

-- a tidy log stays tidy with another draft and its own blocks, on the same versions
tidy-draft : (k : Base) (s : Story) (m : Blocks) → IsTidy k s m
    → (places base : ℕ) (draft : Cells) (changed : List Bool) (own : List (Option ℕ))
    (free : List ℕ)
    → IsOfMap k draft → length own ≡ tiles k → changed ≡ map is_some own
    → ((p i : ℕ) → slice_get own p ≡ Some None → i < 64
    → row_word draft p i ≡ row_word (bitmap_of s (newest s)) p i)
    → length free + length (own_list own) ≡ length m.free + length (own_list m.own)
    → ((n : ℕ) → times n free + times n (own_list own) ≡ times n m.free + times n (own_list m.own))
    → IsTidy k record s { places = places; base = base; draft = draft; changed = changed }
    record m { own = own; free = free }
unfolding newest bitmap_of kept IsKept directory_of
tidy-draft k s m tidy places base draft changed own free of_map long same unchanged lengths stands =
    search (rules, came-same_changes, times-append, All-each)

-- two numbers that no test tells apart are equal, and no test after it tells
none_told : (a b : ℕ) (later : Bool) → (not (a == b) || later) ≡ false → (b ≡ a) × (later ≡ false)
none_told a b later none = (grind (arith, nat_tests), grind (arith, nat_tests))

-- rows that none of a range tells apart are equal
rows_same : (old new : Cells) (p a n : ℕ)
    → list_any (λ i. not (row_word old p i == row_word new p i)) (range_with_len a n) ≡ false
    → (j : ℕ) → a ≤ j → j < a + n → row_word new p j ≡ row_word old p j
rows_same old new p a zero none j low high = absurd (omega arith)
rows_same old new p a (suc n) none j low high =
    let parts = none_told (row_word old p a) (row_word new p a)
    (list_any (λ i. not (row_word old p i == row_word new p i)) (range_with_len (a + 1) n)) none
    in
    elim (cases_eq a j) [
      | inl same ↦ subst (λ (i : ℕ). row_word new p i ≡ row_word old p i) same parts.0
      | inr apart ↦ rows_same old new p (a + 1) n parts.1 j (omega arith) (omega arith)
    ]

-- a position that isn't touched has the same rows
untouched : (old new : Cells) (p i : ℕ) → tile_differs old new p ≡ false → i < 64
    → row_word new p i ≡ row_word old p i
unfolding tile_differs
untouched old new p i none h = rows_same old new p 0 64 none i (omega arith) (omega arith)

-- a draft that is drawn on is of the map's size still
pub IsOfMap-drawn : (k : Base) (b : Cells) (c : Command) → IsOfMap k b → IsOfMap k (drawn b c)
unfolding drawn
IsOfMap-drawn k b c h = search (rules, IsBitmap-cells_where)

-- there is an answer for each position, whether a command touches it
length-touched : (k : Base) (b : Cells) (c : Command) → IsOfMap k b → length (touched b c) ≡ tiles k
unfolding touched
length-touched k b c h = search (rules, length-map-range_with_len, tile_count-of_map)

-- a command touches a position where it changes the tile there
get_or-touched : (k : Base) (b : Cells) (c : Command) (p : ℕ) → IsOfMap k b → p < tiles k
    → get_or (touched b c) p true ≡ tile_differs b (drawn b c) p
unfolding touched
get_or-touched k b c p h inside = search (rules, tile_count-of_map, get_or-map-range_with_len)

-- a position that has no block of the draft's is one of the map's
inside_own : (own : List (Option ℕ)) (p : ℕ) → slice_get own p ≡ Some None → p < length own
inside_own [] p is = absurd (cc)
inside_own (o ∷ own) zero is = omega arith
inside_own (o ∷ own) (suc p) is = let rest = inside_own own p is in omega arith

-- a command that draws and isn't refused finds a free block for each that it needs
enough_free : (k : Base) (s : Story) (m : Blocks) (c : Command) → IsTidy k s m
    → refused_draw k.setting s c ≡ None → needed s c ≤ length m.free
enough_free k s m c tidy accepted = search (rules, free_is, cases_lt, nat_tests)

-- what holds after a legal log holds after one more paint or stamp
pub IsTidy-draw : (k : Base) (s : Story) (m : Blocks) (c : Command) → IsTidy k s m
    → refused_draw k.setting s c ≡ None → IsTidy k (after_draw s c) (drawn_blocks s c m)
unfolding needed
IsTidy-draw k s m c tidy accepted =
    let ts = touched s.draft c in
    let long : length ts ≡ length m.own = search (rules, length-touched) in
    let need : trues (new_ones ts s.changed) ≡ trues (new_ones ts (map is_some m.own)) =
    ap (λ (bs : List Bool). trues (new_ones ts bs)) tidy.shape.changed in
    let enough_now = enough_free k s m c tidy accepted in
    let enough : trues (new_ones ts (map is_some m.own)) ≤ length m.free = omega arith in
    let free : List ℕ = drop (trues (new_ones ts s.changed)) m.free in
    let free_same : free ≡ drop (trues (new_ones ts (map is_some m.own))) m.free = search rules in
    tidy-draft k s m tidy (s.places + 1) s.base (drawn s.draft c) (either s.changed ts)
    (own_after ts m.own m.free) free
    (IsOfMap-drawn k s.draft c tidy.draft)
    (positions-own_after ts m.own m.free long ∙ tidy.shape.own)
    (ap (λ (bs : List Bool). either bs ts) tidy.shape.changed
    ∙ is_some-own_after ts m.own m.free long enough)
    (λ p i none h.
    let before = None-own_after ts m.own m.free p long enough none in
    let inside = inside_own m.own p before.0 in
    untouched s.draft (drawn s.draft c) p i
    (sym (get_or-touched k s.draft c p tidy.draft (let has = tidy.shape.own in omega arith))
    ∙ before.1) h
    ∙ tidy.unchanged p i before.0 h)
    (let taken = length-own_after ts m.own m.free long enough in
    let left = length-drop (trues (new_ones ts s.changed)) m.free in omega arith)
    (λ n. let stands = times-own_after n ts m.own m.free long enough in
    let same = ap (times n) free_same in omega arith)

-- what holds after a legal log holds after one more revert
pub IsTidy-revert : (k : Base) (s : Story) (m : Blocks) → IsTidy k s m
    → IsTidy k record s {
      places = s.places + 1;
      draft = bitmap_of s (newest s);
      changed = replicate (length s.changed) false;
    }
    record m { own = replicate (length m.own) None; free = given_back (own_list m.own) m.free }
IsTidy-revert k s m tidy =
    let none = own_list-none (length m.own) in
    let changed_long : length s.changed ≡ length m.own = search (rules, length-map) in
    tidy-draft k s m tidy (s.places + 1) s.base (bitmap_of s (newest s))
    (replicate (length s.changed) false) (replicate (length m.own) None)
    (given_back (own_list m.own) m.free)
    (tidy.published (newest s) (omega arith))
    (length-replicate (length m.own) None ∙ tidy.shape.own)
    (ap (λ (n : ℕ). replicate n false) changed_long ∙ sym (is_some-none (length m.own)))
    (λ p i no h. refl)
    (let back = length-given_back (own_list m.own) m.free in let gone = ap length none in
    omega arith)
    (λ n. let back = times-given_back n (own_list m.own) m.free in let gone = ap (times n) none in
    omega arith)

-- what holds after a legal log holds after one more checkpoint
pub IsTidy-checkpoint : (k : Base) (s : Story) (m : Blocks) → IsTidy k s m
    → IsTidy k record s { places = s.places + 1; base = s.places + 1 } m
IsTidy-checkpoint k s m tidy =
    tidy-draft k s m tidy (s.places + 1) (s.places + 1) s.draft s.changed m.own m.free tidy.draft
    tidy.shape.own tidy.shape.changed tidy.unchanged refl (λ n. refl)
