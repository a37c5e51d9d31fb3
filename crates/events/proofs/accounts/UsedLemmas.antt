-- How many blocks are in use: one for each position, one for each retired one, and one for each
-- position that has changed since.
use Rattle.events.proofs.Names.{rules, ◌≡◌, ℕ, zero, suc, ◌+◌, ◌<◌, ◌≤◌, ◌==◌, Bool, true, false}
use Rattle.events.proofs.Names.{cond, List, [], ◌∷◌, ◌++◌, length, map, get_or, refl, ap, sym}
use Rattle.events.proofs.Names.{◌∙◌, arith, sum_by, nat_lt, AllByRecursion, range_with_len, inl}
use Rattle.events.proofs.Names.{cases_lt, cases_eq, nat_tests, sum_by-cons, inr, tile_count, kept}
use Rattle.events.proofs.Names.{RetiredBlock, members, Story, newest, IsKept, trues, came, inuse}
use Rattle.events.proofs.Names.{Blocks, directory_of, own_list, blocks_of, Base, tiles, times}
use Rattle.events.proofs.Names.{IsRetired, IsAmongRetired, IsTidy}
use Rattle.events.specs.Story.{blocks_at}
use Rattle.events.proofs.accounts.CameLemmas.{came-changed, came-le, came_order, came_between}
use Rattle.events.proofs.accounts.CountLemmas.{sum_by-add, sum_by-ones, sum_by-place}
use Rattle.events.proofs.accounts.CountLemmas.{values_counted}
use Rattle.events.proofs.logs.KeptLemmas.{times-member, member-times}
use Rattle.events.proofs.accounts.RetiredLemmas.{used_by}
use Rattle.events.proofs.accounts.TimesLemmas.{one_if, none_if, times-append}

-- the retired blocks of a position have come with these versions
abbrev pub firsts : ℕ → List RetiredBlock → List ℕ
firsts p [] = []
firsts p (r ∷ rs) = cond (r.position == p) (r.first ∷ firsts p rs) (firsts p rs)

-- one of some retired blocks is of this position, and has come with this version
pub record IsFirst (k : Base) (s : Story) (m : Blocks) (p n : ℕ) (rs : List RetiredBlock) :
    Type 0 where
  pub old : RetiredBlock
  pub is : IsRetired k s m old
  pub at : old.position ≡ p
  pub first : old.first ≡ n
  pub there : 1 ≤ times old.block (blocks_of rs)

-- a number among them is of one of the blocks
first_of : (k : Base) (s : Story) (m : Blocks) (p n : ℕ) (rs : List RetiredBlock)
    → AllByRecursion (IsRetired k s m) rs → 1 ≤ times n (firsts p rs) → IsFirst k s m p n rs
first_of k s m p n [] all some = absurd (omega arith)
first_of k s m p n (r ∷ rs) all some =
    elim (cases_eq r.position p) [
      | inl here ↦
          elim (cases_eq r.first n) [
            | inl same ↦ record {
              old = r;
              is = all.0;
              at = here;
              first = same;
              there = (let one = one_if r.block r.block refl in omega arith);
            }
            | inr apart ↦ later k s m p n r rs
                (first_of k s m p n rs all.1
                (passed (r.position == p) n r.first (firsts p rs) apart some))
          ]
      | inr other ↦ later k s m p n r rs
          (first_of k s m p n rs all.1
          (skipped (r.position == p) n r.first (firsts p rs) (no r.position p other) some))
    ]
  where
    no : (a b : ℕ) → (a ≡ b → ⊥) → (a == b) ≡ false
    no a b apart = grind (arith, nat_tests)

    later : (k : Base) (s : Story) (m : Blocks) (p n : ℕ) (r : RetiredBlock)
        (rs : List RetiredBlock) → IsFirst k s m p n rs → IsFirst k s m p n (r ∷ rs)
    later k s m p n r rs h = record {
      old = h.old;
      is = h.is;
      at = h.at;
      first = h.first;
      there = (let before = h.there in omega arith);
    }

    passed : (test : Bool) (n f : ℕ) (ns : List ℕ) → (f ≡ n → ⊥)
        → 1 ≤ times n (cond test (f ∷ ns) ns) → 1 ≤ times n ns
    passed true n f ns apart some = let none = none_if n f (λ same. apart (sym same)) in omega arith
    passed false n f ns apart some = some

    skipped : (test : Bool) (n f : ℕ) (ns : List ℕ) → test ≡ false
        → 1 ≤ times n (cond test (f ∷ ns) ns) → 1 ≤ times n ns
    skipped true n f ns is some = absurd (cc)
    skipped false n f ns is some = some

-- the version with which a block among some has come is among them
Among-first : (k : Base) (s : Story) (m : Blocks) (block v p : ℕ) (rs : List RetiredBlock)
    → AllByRecursion (IsRetired k s m) rs → IsAmongRetired block v p rs
    → 1 ≤ times (came s p v) (firsts p rs)
Among-first k s m block v p [] all among = absurd among
Among-first k s m block v p (r ∷ rs) all (inl h) = search (rules, came_between, one_if)
Among-first k s m block v p (r ∷ rs) all (inr among) =
    search (rules, Among-first k s m block v p rs all.1 among)

-- two retired blocks of one position that have come with one version are the same block
pub one_block : (k : Base) (s : Story) (m : Blocks) (r q : RetiredBlock) → IsRetired k s m r
    → IsRetired k s m q → r.position ≡ q.position → r.first ≡ q.first → (r.last ≡ q.last)
    × (r.block ≡ q.block)
one_block k s m r q is_r is_q at first =
    let last : r.last ≡ q.last =
    elim (cases_lt r.last q.last) [
      | inl less ↦ absurd (not_before k s m r q is_r is_q at first less)
      | inr most ↦
          elim (cases_lt q.last r.last) [
            | inl more ↦ absurd (not_before k s m q r is_q is_r (sym at) (sym first) more)
            | inr least ↦ omega arith
          ]
    ] in (
      last,
      is_r.block_is
          ∙ (ap (λ (v : ℕ). get_or (directory_of m v) r.position 0) last
          ∙ (ap (λ (p : ℕ). get_or (directory_of m q.last) p 0) at ∙ sym is_q.block_is)),
    )
  where
    not_before : (k : Base) (s : Story) (m : Blocks) (r q : RetiredBlock) → IsRetired k s m r
        → IsRetired k s m q → r.position ≡ q.position → r.first ≡ q.first → r.last < q.last → ⊥
    not_before k s m r q is_r is_q at first less =
        let next = came-changed s r.position r.last is_r.gone in
        let up = came_order s r.position (suc r.last) q.last (omega arith) in
        let place = ap (λ (p : ℕ). came s p q.last) at in
        let first_r = is_r.first_is in
        let first_q = is_q.first_is in
        let below = came-le s r.position r.last in
        absurd (omega arith)

-- no version is twice among the firsts of a position
firsts-once : (k : Base) (s : Story) (m : Blocks) (p n : ℕ) (rs : List RetiredBlock)
    → AllByRecursion (IsRetired k s m) rs → ((b : ℕ) → times b (blocks_of rs) ≤ 1)
    → times n (firsts p rs) ≤ 1
firsts-once k s m p n [] all once = omega arith
firsts-once k s m p n (r ∷ rs) all once =
    let rest = firsts-once k s m p n rs all.1 (λ b. let few = once b in omega arith) in
    elim (cases_eq r.position p) [
      | inl here ↦
          elim (cases_eq r.first n) [
            | inl same ↦
                elim (cases_lt 0 (times n (firsts p rs))) [
                  | inl twice ↦
                      let h = first_of k s m p n rs all.1 (omega arith) in
                      let block = (one_block k s m r h.old all.0 h.is (here ∙ sym h.at)
                      (same ∙ sym h.first)).1 in
                      let both = ap (λ (b : ℕ). times b (blocks_of rs)) block in
                      let there = h.there in
                      let few = once r.block in
                      let one = one_if r.block r.block refl in
                      absurd (omega arith)
                  | inr none ↦ at_most (r.position == p) n r.first (firsts p rs) (omega arith)
                ]
            | inr apart ↦ still (r.position == p) n r.first (firsts p rs) apart rest
          ]
      | inr other ↦ skipped (r.position == p) n r.first (firsts p rs) (no r.position p other) rest
    ]
  where
    no : (a b : ℕ) → (a ≡ b → ⊥) → (a == b) ≡ false
    no a b apart = grind (arith, nat_tests)

    at_most_one : (n f : ℕ) → cond (n == f) 1 0 ≤ 1
    at_most_one n f = grind (arith, nat_tests)

    at_most : (test : Bool) (n f : ℕ) (ns : List ℕ) → times n ns ≡ 0
        → times n (cond test (f ∷ ns) ns) ≤ 1
    at_most true n f ns none = let few = at_most_one n f in omega arith
    at_most false n f ns none = omega arith

    still : (test : Bool) (n f : ℕ) (ns : List ℕ) → (f ≡ n → ⊥) → times n ns ≤ 1
        → times n (cond test (f ∷ ns) ns) ≤ 1
    still true n f ns apart few = let none = none_if n f (λ same. apart (sym same)) in omega arith
    still false n f ns apart few = few

    skipped : (test : Bool) (n f : ℕ) (ns : List ℕ) → test ≡ false → times n ns ≤ 1
        → times n (cond test (f ∷ ns) ns) ≤ 1
    skipped true n f ns is few = absurd (cc)
    skipped false n f ns is few = few

-- the version with which newest's block of a position came is none of those with which its retired
-- blocks came
newest_first : (k : Base) (s : Story) (m : Blocks) (p : ℕ) (rs : List RetiredBlock)
    → AllByRecursion (IsRetired k s m) rs → times (came s p (newest s)) (firsts p rs) ≡ 0
newest_first k s m p rs all =
    elim (cases_lt 0 (times (came s p (newest s)) (firsts p rs))) [
      | inl some ↦
          let h = first_of k s m p (came s p (newest s)) rs all (omega arith) in
          let r = h.old in
          let next = came-changed s r.position r.last h.is.gone in
          let before = h.is.before in
          let up = came_order s r.position (suc r.last) (newest s) (omega arith) in
          let place = ap (λ (q : ℕ). came s q (newest s)) h.at in
          let first = h.first in
          let first_is = h.is.first_is in
          let below = came-le s r.position r.last in
          absurd (omega arith)
      | inr none ↦ omega arith
    ]

-- a number stands at most once among the retired blocks
few_retired : (k : Base) (s : Story) (m : Blocks) → IsTidy k s m → (b : ℕ)
    → times b (blocks_of m.retired) ≤ 1
few_retired k s m tidy b =
    let all = tidy.once b in
    let few : cond (nat_lt b k.setting.blocks) 1 0 ≤ 1 = few_of (nat_lt b k.setting.blocks) in
    omega (
      arith,
      times-append b (m.free ++ own_list m.own ++ directory_of m (newest s))
          (blocks_of m.retired),
      times-append b (m.free ++ own_list m.own) (directory_of m (newest s)),
      times-append b m.free (own_list m.own),
    )
  where
    few_of : (test : Bool) → cond test 1 0 ≤ 1
    few_of true = omega arith
    few_of false = omega arith

-- the kept versions have at a position newest's block and those that retired there, each once
blocks_at-kept : (k : Base) (s : Story) (m : Blocks) → IsTidy k s m → (p : ℕ) → p < tiles k
    → blocks_at s (kept s) p ≡ suc (length (firsts p m.retired))
unfolding kept IsKept
blocks_at-kept k s m tidy p inside =
    let newest_in = tidy.slots.newest_in in
    let last = came s p (newest s) in
    let none = newest_first k s m p m.retired tidy.retired in
    let blocks_once : (b : ℕ) → times b (blocks_of m.retired) ≤ 1 = λ b. few_retired k s m tidy b in
    values_counted (map (came s p) (members s.kept.slots)) (last ∷ firsts p m.retired)
    (λ n some.
    let of = member-times (came s p) s.kept.slots n some in
    elim (tidy.mapped of.version p record { slot = of.slot; there = of.there } inside) [
      | inl has ↦ let one = one_if n last (sym of.is ∙ has.came_is) in omega arith
      | inr among ↦ let there = Among-first k s m _ of.version p m.retired tidy.retired among in
          let is = ap (λ (q : ℕ). times q (firsts p m.retired)) of.is in omega arith
    ])
    (λ n some.
    elim (cases_eq last n) [
      | inl same ↦ times-member (came s p) s.kept.slots newest_in.slot
          (newest s) n newest_in.there same
      | inr apart ↦
          let no_head = none_if n last (λ same. apart (sym same)) in
          let h = first_of k s m p n m.retired tidy.retired (omega arith) in
          let user = used_by s.kept.slots h.old h.is.used in
          let first_is : h.old.first ≡ came s p h.old.last = h.is.first_is
          ∙ ap (λ (q : ℕ). came s q h.old.last) h.at in
          let since = user.since in
          times-member (came s p) s.kept.slots user.slot user.version n user.there
          (came_between s p user.version h.old.last (omega arith) user.until
          ∙ (sym first_is ∙ h.first))
    ])
    (λ n.
    let few = firsts-once k s m p n m.retired tidy.retired blocks_once in
    elim (cases_eq last n) [
      | inl same ↦ let gone = ap (λ (q : ℕ). times q (firsts p m.retired)) same in
          let one = one_if n last (sym same) in omega arith
      | inr apart ↦ let no_head = none_if n last (λ same. apart (sym same)) in omega arith
    ])

-- the retired blocks counted position by position are as many as all of them
firsts-all : (tiles_here : ℕ) (rs : List RetiredBlock)
    → AllByRecursion (λ r. r.position < tiles_here) rs
    → sum_by (λ p. length (firsts p rs)) (range_with_len 0 tiles_here) ≡ length rs
firsts-all n [] all = none n 0
  where
    none : (n a : ℕ) → sum_by (λ p. 0) (range_with_len a n) ≡ 0
    none zero a = refl
    none (suc n) a = let rest = none n (a + 1) in
        omega (arith, sum_by-cons (λ p. 0) a (range_with_len (a + 1) n))
firsts-all n (r ∷ rs) all =
    let rest = firsts-all n rs all.1 in
    let here = sum_by-place r.position 0 n (omega arith) (let inside = all.0 in omega arith) in
    let both = sum_by-add (λ p. cond (r.position == p) 1 0) (λ p. length (firsts p rs))
    (λ p. length (firsts p (r ∷ rs))) 0 n
    (λ p low high. by_test (r.position == p) r.first (firsts p rs)) in
    omega arith
  where
    by_test : (test : Bool) (f : ℕ) (ns : List ℕ)
        → length (cond test (f ∷ ns) ns) ≡ cond test 1 0 + length ns
    by_test true f ns = omega arith
    by_test false f ns = omega arith

-- the blocks in use are one for each position, the retired ones, and one for each position that has
-- changed
pub inuse_is : (k : Base) (s : Story) (m : Blocks) → IsTidy k s m → tile_count s.draft ≡ tiles k
    → inuse s ≡ tiles k + length m.retired + trues s.changed
unfolding inuse
inuse_is k s m tidy size =
    let inside = All-inside k s m m.retired tidy.retired in
    let all = firsts-all (tiles k) m.retired inside in
    let ones = sum_by-ones (λ p. 1) 0 (tiles k) (λ p. refl) in
    let both = sum_by-add (λ p. 1) (λ p. length (firsts p m.retired)) (blocks_at s (kept s)) 0
    (tiles k) (λ p low high. let here = blocks_at-kept k s m tidy p (omega arith) in omega arith)
    in
    ap (λ (t : ℕ). sum_by (blocks_at s (kept s)) (range_with_len 0 t) + trues s.changed) size
    ∙ (omega arith)
  where
    All-inside : (k : Base) (s : Story) (m : Blocks) (rs : List RetiredBlock)
        → AllByRecursion (IsRetired k s m) rs → AllByRecursion (λ r. r.position < tiles k) rs
    All-inside k s m [] all = tt
    All-inside k s m (r ∷ rs) all = (all.0.inside, All-inside k s m rs all.1)
