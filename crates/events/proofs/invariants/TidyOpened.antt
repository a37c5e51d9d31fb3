-- What holds of the empty log.
use Rattle.events.proofs.Names.{rules, ◌≡◌, ℕ, zero, suc, ◌+◌, ◌-◌, ◌≤◌, cond, [], ◌∷◌, ap, refl}
use Rattle.events.proofs.Names.{get_or, sym, ◌∙◌, arith, nat_lt, nat_le, range_with_len, inl}
use Rattle.events.proofs.Names.{nat_tests, length-replicate, length-range_with_len, first_kept}
use Rattle.events.proofs.Names.{opened, newest, bitmap_of, kept, IsKept, came, opened_blocks}
use Rattle.events.proofs.Names.{directory_of, Base, tiles, times, IsReady, IsOfMap, AreSlots}
use Rattle.events.proofs.Names.{IsTidy}
use Rattle.events.proofs.accounts.TimesLemmas.{times-append, own_list-none, is_some-none}
use Rattle.bits.proofs.BandLemmas.{read_none}

-- a number stands in a range once if it lies in it, and else not
times-range : (b a n : ℕ)
    → times b (range_with_len a n) ≡ cond (nat_lt b (a + n)) (cond (nat_le a b) 1 0) 0
times-range b a zero = grind (arith, nat_tests)
times-range b a (suc n) = search (rules, times-range b (a + 1) n)

-- two ranges in a row have each number below their end once
once_each : (b t n : ℕ) → t ≤ n
    → times b (range_with_len t (n - t)) + times b (range_with_len 0 t) ≡ cond (nat_lt b n) 1 0
once_each b t n h = search (rules, times-range, nat_tests)

-- at the opening slot 0 has version 0, and no other slot has any
pub opened_at : (i v : ℕ) → get_or first_kept.slots i 0 ≡ suc v → (i ≡ 0) × (v ≡ 0)
opened_at zero v there = (refl, omega arith)
opened_at (suc i) v there = absurd (let none = read_none 63 i in omega arith)

-- at the opening version 0 stands in a slot, and newest is that version
slots_opened : (k : Base) → IsReady k → AreSlots k (opened k.opening)
unfolding opened newest IsKept
slots_opened k ready =
    let versions = ready.versions in
    record {
      long = refl;
      each = refl;
      newest_in = record { slot = 0; there = refl };
      published = λ v h. let at = (opened_at h.slot v h.there).1 in omega arith;
      within = λ i v there. let at = (opened_at i v there).0 in omega arith;
      own = λ i v there. let at = opened_at i v there in let first = at.0 in
          ap (λ (w : ℕ). get_or (0 ∷ []) w 0) at.1 ∙ sym at.0;
    }

-- the story and the blocks of the empty log are tidy
pub IsTidy-opened : (k : Base) → IsReady k
    → IsTidy k (opened k.opening) (opened_blocks (tiles k) k.setting.blocks)
unfolding opened opened_blocks newest bitmap_of kept IsKept directory_of
IsTidy-opened k ready =
    let none = own_list-none (tiles k) in
    let blocks = ready.blocks in
    let versions = ready.versions in
    let opening : IsOfMap k k.opening = search rules in
    record {
      shape = search (rules, length-replicate, is_some-none, length-range_with_len);
      draft = opening;
      published = λ v h. search rules;
      unchanged = λ p i is h. refl;
      slots = slots_opened k ready;
      kept_fit = omega arith;
      once = λ b. search (rules, once_each, times-append);
      retired = tt;
      mapped = λ v p is_kept inside. let first = (opened_at is_kept.slot v is_kept.there).1 in
          inl record {
            block_is =
                ap (λ (w : ℕ). get_or (directory_of (opened_blocks (tiles k) k.setting.blocks) w) p
                0)
                first;
            came_is = ap (came (opened k.opening) p) first;
          };
    }
