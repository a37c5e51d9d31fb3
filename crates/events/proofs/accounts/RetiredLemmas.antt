-- The list of retired blocks: what holds of each, which block stands at a position, and which are
-- used.
use Rattle.events.proofs.Names.{rules, ◌≡◌, ℕ, zero, suc, ◌+◌, ◌<◌, ◌≤◌, ◌&&◌, Bool, true, false}
use Rattle.events.proofs.Names.{List, [], ◌∷◌, ◌++◌, length, map, get_or, refl, ap, subst, arith}
use Rattle.events.proofs.Names.{Option, Some, None, is_some, filter, nat_le, Contains, nat_tests}
use Rattle.events.proofs.Names.{AllByRecursion, inl, inr, Story, newest, came, RetiredBlock}
use Rattle.events.proofs.Names.{replaced, is_used, blocks_of, times, members, IsBlockAt}
use Rattle.events.proofs.Names.{IsAmongRetired}
use Rattle.events.proofs.logs.KeptLemmas.{any_member, found_member}

-- what holds of each retired block of two lists holds of each of the lists assembled
pub All-append : (P : RetiredBlock → Type 0) (rs qs : List RetiredBlock) → AllByRecursion P rs
    → AllByRecursion P qs → AllByRecursion P (rs ++ qs)
All-append P [] qs a b = b
All-append P (r ∷ rs) qs a b = (a.0, All-append P rs qs a.1 b)

-- what follows of each retired block holds of each where its reason does
pub All-each : (P Q : RetiredBlock → Type 0) (rs : List RetiredBlock)
    → ((r : RetiredBlock) → P r → Q r) → AllByRecursion P rs → AllByRecursion Q rs
All-each P Q [] each a = tt
All-each P Q (r ∷ rs) each a = (each r a.0, All-each P Q rs each a.1)

-- what holds of each retired block holds of the one at a place
All-at : (P : RetiredBlock → Type 0) (rs : List RetiredBlock) (r : RetiredBlock)
    → AllByRecursion P rs → (i : ℕ) → i < length rs → get_or rs i r ≡ r → P r
All-at P [] r a i h is = absurd (omega arith)
All-at P (q ∷ qs) r a zero h is = subst (λ (x : RetiredBlock). P x) is a.0
All-at P (q ∷ qs) r a (suc i) h is = All-at P qs r a.1 i (omega arith) is

-- what holds of each retired block holds of one that is among them
pub All-one : (P : RetiredBlock → Type 0) (rs : List RetiredBlock) (r : RetiredBlock)
    → AllByRecursion P rs → Contains rs r → P r
All-one P rs r a there = All-at P rs r a there.0 there.1 there.2

-- each of those that pass a test holds what held, and what the test says
pub All-filter : (P Q : RetiredBlock → Type 0) (test : RetiredBlock → Bool) (rs : List RetiredBlock)
    → ((r : RetiredBlock) → P r → test r ≡ true → Q r)
    → AllByRecursion P rs → AllByRecursion Q (filter test rs)
All-filter P Q test [] each a = tt
All-filter P Q test (r ∷ rs) each a =
    search (rules, All-filter P Q test rs each a.1, All-filter P Q test rs each a.1)

-- a block that is among the retired ones of a first list is among those of both
pub Among-append_left : (block v p : ℕ) (rs qs : List RetiredBlock) → IsAmongRetired block v p rs
    → IsAmongRetired block v p (rs ++ qs)
Among-append_left block v p [] qs h = absurd h
Among-append_left block v p (r ∷ rs) qs (inl h) = inl h
Among-append_left block v p (r ∷ rs) qs (inr h) = inr (Among-append_left block v p rs qs h)

-- a block that is among the retired ones of a second list is among those of both
pub Among-append_right : (block v p : ℕ) (rs qs : List RetiredBlock) → IsAmongRetired block v p qs
    → IsAmongRetired block v p (rs ++ qs)
Among-append_right block v p [] qs h = h
Among-append_right block v p (r ∷ rs) qs h = inr (Among-append_right block v p rs qs h)

-- a block that passes the test stays
pub Among-filter : (block v p : ℕ) (test : RetiredBlock → Bool) (rs : List RetiredBlock)
    → ((r : RetiredBlock) → IsBlockAt block v p r → test r ≡ true)
    → IsAmongRetired block v p rs → IsAmongRetired block v p (filter test rs)
Among-filter block v p test [] passes h = absurd h
Among-filter block v p test (r ∷ rs) passes (inl h) = search rules
Among-filter block v p test (r ∷ rs) passes (inr h) =
    search (rules, Among-filter block v p test rs passes h)

-- a block that is among the retired ones stands in their list
pub Among-times : (block v p : ℕ) (rs : List RetiredBlock) → IsAmongRetired block v p rs
    → 1 ≤ times block (blocks_of rs)
Among-times block v p [] h = absurd h
Among-times block v p (r ∷ rs) (inl h) = let is = h.block_is in grind (arith, nat_tests)
Among-times block v p (r ∷ rs) (inr h) = omega (arith, Among-times block v p rs h)

-- what holds of a retired block at a position holds of it at the same position, written otherwise
at_position : (P : RetiredBlock → Type 0) (s : Story) (b p q : ℕ) → p ≡ q
    → P record { block = b; position = p; first = came s p (newest s); last = newest s }
    → P record { block = b; position = q; first = came s q (newest s); last = newest s }
at_position P s b p q at h = search rules

-- what holds of the block of each position that has changed holds of each that retires
pub All-replaced : (P : RetiredBlock → Type 0) (s : Story) (k : ℕ) (own : List (Option ℕ))
    (blocks : List ℕ) → length own ≡ length blocks
    → ((j : ℕ) → j < length own → get_or (map is_some own) j false ≡ true
    → P record {
      block = get_or blocks j 0;
      position = k + j;
      first = came s (k + j) (newest s);
      last = newest s;
    })
    → AllByRecursion P (replaced s k own blocks)
All-replaced P s k [] blocks same each = tt
All-replaced P s k (o ∷ own) [] same each = tt
All-replaced P s k (None ∷ own) (b ∷ blocks) same each =
    All-replaced P s (k + 1) own blocks (omega arith)
    (λ j h is. at_position P s (get_or blocks j 0) (k + suc j) (k + 1 + j) (omega arith)
    (each (suc j) (omega arith) is))
All-replaced P s k (Some o ∷ own) (b ∷ blocks) same each = (
  at_position P s b (k + 0) k (omega arith) (each 0 (omega arith) refl),
  All-replaced P s (k + 1) own blocks (omega arith)
      (λ j h is. at_position P s (get_or blocks j 0) (k + suc j) (k + 1 + j) (omega arith)
      (each (suc j) (omega arith) is)),
)

-- the block that a position had in newest is among those that retire, where the position has
-- changed
pub Among-replaced : (s : Story) (k : ℕ) (own : List (Option ℕ)) (blocks : List ℕ) (p v : ℕ)
    → length own ≡ length blocks → p < length own
    → get_or (map is_some own) p false ≡ true → came s (k + p) (newest s) ≤ v → v ≤ newest s
    → IsAmongRetired (get_or blocks p 0) v (k + p) (replaced s k own blocks)
Among-replaced s k [] blocks p v same h is low high = absurd (omega arith)
Among-replaced s k (o ∷ own) [] p v same h is low high = absurd (omega arith)
Among-replaced s k (None ∷ own) (b ∷ blocks) zero v same h is low high = absurd (cc)
Among-replaced s k (Some o ∷ own) (b ∷ blocks) zero v same h is low high =
    let at : k ≡ k + 0 = omega arith in
    inl record {
      block_is = refl;
      position_is = at;
      since = let came_is = ap (λ (n : ℕ). came s n (newest s)) at in omega arith;
      until = high;
    }
Among-replaced s k (None ∷ own) (b ∷ blocks) (suc p) v same h is low high =
    let at : k + 1 + p ≡ k + suc p = omega arith in
    let came_is = ap (λ (n : ℕ). came s n (newest s)) at in
    subst (λ (n : ℕ). IsAmongRetired (get_or blocks p 0) v n (replaced s (k + 1) own blocks)) at
    (Among-replaced s (k + 1) own blocks p v (omega arith) (omega arith) is (omega arith) high)
Among-replaced s k (Some o ∷ own) (b ∷ blocks) (suc p) v same h is low high =
    let at : k + 1 + p ≡ k + suc p = omega arith in
    let came_is = ap (λ (n : ℕ). came s n (newest s)) at in
    inr (subst (λ (n : ℕ). IsAmongRetired (get_or blocks p 0) v n (replaced s (k + 1) own blocks))
    at
    (Among-replaced s (k + 1) own blocks p v (omega arith) (omega arith) is (omega arith) high))

-- a retired block that a slot's version has is used
pub used_at : (slots : List ℕ) (r : RetiredBlock) (i v : ℕ) → get_or slots i 0 ≡ suc v → r.first ≤ v
    → v ≤ r.last → is_used (members slots) r ≡ true
used_at slots r i v there since until =
    any_member (λ w. nat_le r.first w && nat_le w r.last) slots i v there
    (between r.first v r.last since until)
  where
    between : (f v l : ℕ) → f ≤ v → v ≤ l → (nat_le f v && nat_le v l) ≡ true
    between f v l low high = grind (arith, nat_tests)

-- a version in its slot has the retired block
pub record IsUser (slots : List ℕ) (r : RetiredBlock) : Type 0 where
  pub slot : ℕ
  pub version : ℕ
  pub there : get_or slots slot 0 ≡ suc version
  pub since : r.first ≤ version
  pub until : version ≤ r.last

-- a retired block that is used has a kept version that uses it
pub used_by : (slots : List ℕ) (r : RetiredBlock) → is_used (members slots) r ≡ true
    → IsUser slots r
used_by slots r used =
    let found = found_member (λ w. nat_le r.first w && nat_le w r.last) slots used in
    let both = between r.first found.version r.last found.passes in
    record {
      slot = found.slot;
      version = found.version;
      there = found.there;
      since = both.0;
      until = both.1;
    }
  where
    between : (f v l : ℕ) → (nat_le f v && nat_le v l) ≡ true → (f ≤ v) × (v ≤ l)
    between f v l is = (grind (arith, nat_tests), grind (arith, nat_tests))
