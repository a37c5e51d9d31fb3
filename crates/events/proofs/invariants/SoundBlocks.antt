-- After a legal log the blocks are sound, and what a kept version maps is neither free nor the
-- draft's.
use Rattle.events.proofs.Names.{◌≡◌, ℕ, zero, suc, ◌+◌, ◌<◌, ◌≤◌, Bool, true, false, cond, List}
use Rattle.events.proofs.Names.{[], ◌∷◌, ◌++◌, length, get_or, ap, sym, ◌∙◌, arith, nat_lt, inl}
use Rattle.events.proofs.Names.{Contains, AllByRecursion, nat_tests, inr, RetiredBlock, Story}
use Rattle.events.proofs.Names.{newest, kept, IsKept, came, Blocks, directory_of, own_list, Base}
use Rattle.events.proofs.Names.{blocks_of, tiles, times, IsRetired, IsBlockAt, IsAmongRetired}
use Rattle.events.proofs.Names.{IsTidy}
use Rattle.std.proofs.lemmas.Grind.{common_steps}
use Rattle.events.specs.Safe.{IsMappedStill, IsSound}
use Rattle.events.proofs.accounts.CameLemmas.{came-changed, came-le, came_order, came_between}
use Rattle.events.proofs.accounts.RetiredLemmas.{All-one, Among-times, used_by}
use Rattle.events.proofs.accounts.UsedLemmas.{one_block}
use Rattle.events.proofs.accounts.TimesLemmas.{one_if, times-append, times-at}

-- a number stands at most once in all lists of blocks
pub at_most_once : (k : Base) (s : Story) (m : Blocks) → IsTidy k s m → (b : ℕ)
    → times b m.free + times b (own_list m.own) + times b (directory_of m (newest s))
    + times b (blocks_of m.retired) ≤ 1
at_most_once k s m tidy b =
    let all = tidy.once b in
    let few : cond (nat_lt b k.setting.blocks) 1 0 ≤ 1 = few_of (nat_lt b k.setting.blocks) in
    omega (
      arith,
      times-append b (m.free ++ own_list m.own ++ directory_of m (newest s))
          (blocks_of m.retired),
      times-append b (m.free ++ own_list m.own) (directory_of m (newest s)),
      times-append b m.free (own_list m.own),
    )
  where
    few_of : (test : Bool) → cond test 1 0 ≤ 1
    few_of true = omega arith
    few_of false = omega arith

-- the block that a kept version maps is neither free nor the draft's, but newest's or retired
pub kept_apart : (k : Base) (s : Story) (m : Blocks) → IsTidy k s m → (v p b : ℕ) → IsKept s v
    → p < tiles k
    → get_or (directory_of m v) p 0 ≡ b → (times b m.free ≡ 0) × (times b (own_list m.own) ≡ 0)
kept_apart k s m tidy v p b is_kept inside is =
    let all = at_most_once k s m tidy b in
    let long = tidy.shape.directory (newest s) (omega arith) in
    let found : 1 ≤ times b (directory_of m (newest s)) + times b (blocks_of m.retired) =
    elim (tidy.mapped v p is_kept inside) [
      | inl has ↦ let there = times-at b (directory_of m (newest s)) p 0 (omega arith)
          (sym has.block_is ∙ is) in omega arith
      | inr among ↦ let there = Among-times (get_or (directory_of m v) p 0) v p m.retired among in
          let same = ap (λ (n : ℕ). times n (blocks_of m.retired)) is in omega arith
    ] in
    (omega arith, omega arith)

-- the block that a kept version maps is one of the map's blocks
pub block_within : (k : Base) (s : Story) (m : Blocks) → IsTidy k s m → (v p : ℕ) → IsKept s v
    → p < tiles k
    → get_or (directory_of m v) p 0 < k.setting.blocks
block_within k s m tidy v p is_kept inside =
    let b = get_or (directory_of m v) p 0 in
    let all = tidy.once b in
    let long = tidy.shape.directory (newest s) (omega arith) in
    let found : 1 ≤ times b (directory_of m (newest s)) + times b (blocks_of m.retired) =
    elim (tidy.mapped v p is_kept inside) [
      | inl has ↦ let there = times-at b (directory_of m (newest s)) p 0 (omega arith)
          (sym has.block_is) in omega arith
      | inr among ↦ let there = Among-times b v p m.retired among in omega arith
    ] in
    let counted : 1 ≤ cond (nat_lt b k.setting.blocks) 1 0 =
    omega (
      arith,
      times-append b (m.free ++ own_list m.own ++ directory_of m (newest s))
          (blocks_of m.retired),
      times-append b (m.free ++ own_list m.own) (directory_of m (newest s)),
      times-append b m.free (own_list m.own),
    ) in
    below b k.setting.blocks counted
  where
    below : (b n : ℕ) → 1 ≤ cond (nat_lt b n) 1 0 → b < n
    below b n h = grind (arith, nat_tests)

-- a block that is among the retired ones is one of them
pub record IsThatBlock (k : Base) (s : Story) (m : Blocks) (block v p : ℕ) : Type 0 where
  pub old : RetiredBlock
  pub is : IsRetired k s m old
  pub at : IsBlockAt block v p old

-- a block that is among some retired ones is found as one of them
that_block : (k : Base) (s : Story) (m : Blocks) (block v p : ℕ) (rs : List RetiredBlock)
    → AllByRecursion (IsRetired k s m) rs → IsAmongRetired block v p rs
    → IsThatBlock k s m block v p
that_block k s m block v p [] all among = absurd among
that_block k s m block v p (r ∷ rs) all (inl h) = record { old = r; is = all.0; at = h }
that_block k s m block v p (r ∷ rs) all (inr among) = that_block k s m block v p rs all.1 among

-- a retired block is mapped by a version that is kept, and not by newest
mapped_still : (k : Base) (s : Story) (m : Blocks) → IsTidy k s m → (r : RetiredBlock)
    → Contains m.retired r → IsRetired k s m r → IsMappedStill s m r
unfolding kept IsKept
mapped_still k s m tidy r there h =
    let user = used_by s.kept.slots r h.used in
    let v = user.version in
    let since = user.since in
    let first_is = h.first_is in
    let came_is : came s r.position v ≡ r.first =
    came_between s r.position v r.last (omega arith) user.until ∙ sym first_is in
    let all = at_most_once k s m tidy r.block in
    let here = block_there m.retired r there in
    record {
      version = v;
      kept = record { slot = user.slot; there = user.there };
      inside =
          let h_inside = h.inside in
          let h_before = h.before in
          let until = user.until in
          let long = tidy.shape.directory v (omega arith) in
          omega arith;
      there =
          elim (tidy.mapped v r.position record { slot = user.slot; there = user.there } h.inside) [
            | inl has ↦
                let next = came-changed s r.position r.last h.gone in
                let before = h.before in
                let up = came_order s r.position (suc r.last) (newest s) (omega arith) in
                let below = came-le s r.position r.last in
                let same = has.came_is in
                absurd (omega arith)
            | inr among ↦
                let q = that_block k s m _ v r.position m.retired tidy.retired among in
                let q_since = q.at.since in
                let q_first : q.old.first ≡ came s r.position q.old.last = q.is.first_is
                ∙ ap (λ (p : ℕ). came s p q.old.last) q.at.position_is in
                let q_came : came s r.position v ≡ q.old.first =
                came_between s r.position v q.old.last (omega arith) q.at.until ∙ sym q_first in
                sym q.at.block_is
                ∙ (one_block k s m q.old r q.is h q.at.position_is (sym q_came ∙ came_is)).1
          ];
      gone = omega arith;
    }
  where
    block_there : (rs : List RetiredBlock) (r : RetiredBlock) → Contains rs r
        → 1 ≤ times r.block (blocks_of rs)
    block_there rs r there = block_at rs r there.0 there.1 there.2
      where
        block_at : (rs : List RetiredBlock) (r : RetiredBlock) (i : ℕ) → i < length rs
            → get_or rs i r ≡ r → 1 ≤ times r.block (blocks_of rs)
        block_at [] r i h is = absurd (omega arith)
        block_at (q ∷ qs) r zero h is = let one =
            one_if r.block q.block (sym (ap (λ (x : RetiredBlock). x.block) is)) in omega arith
        block_at (q ∷ qs) r (suc i) h is = let rest = block_at qs r i (omega arith) is in
            omega arith

-- after a legal log the blocks are sound
pub sound_blocks : (k : Base) (s : Story) (m : Blocks) → IsTidy k s m → IsSound s m k.setting.blocks
sound_blocks k s m tidy = grind (arith, common_steps, mapped_still, All-one)
