-- What holds after a legal log holds after one more collect: the blocks that no kept version uses
-- are freed.
use Rattle.events.proofs.Names.{rules, ◌≡◌, ℕ, ◌+◌, ◌<◌, ◌≤◌, ◌⊎◌, Bool, true, not, List, ◌++◌}
use Rattle.events.proofs.Names.{length, get_or, refl, sym, ◌∙◌, arith, filter, inl, inr, Kept}
use Rattle.events.proofs.Names.{RetiredBlock, IsIn, IsPartOfKept, Story, newest, bitmap_of, kept}
use Rattle.events.proofs.Names.{IsKept, Blocks, directory_of, own_list, blocks_of, is_used, Base}
use Rattle.events.proofs.Names.{given_back, tiles, IsRetired, IsAmongRetired, HasNewest, AreSlots}
use Rattle.events.proofs.Names.{IsTidy}
use Rattle.events.specs.Blocks.{swept}
use Rattle.events.proofs.accounts.CameLemmas.{came-same_changes}
use Rattle.events.proofs.logs.KeptLemmas.{part-at, part-long, part-few}
use Rattle.events.proofs.accounts.RetiredLemmas.{All-filter, Among-filter, used_at}
use Rattle.events.proofs.accounts.TimesLemmas.{times-append, times-filter, length-filter}
use Rattle.events.proofs.accounts.TimesLemmas.{times-given_back, length-given_back}
use Rattle.events.proofs.accounts.TimesLemmas.{length-blocks_of}

-- the story keeps other versions and has this place, and is otherwise as it was
abbrev pub keeping : Story → ℕ → Kept → Story
keeping s places kept_now = record s { places = places; kept = kept_now }

-- another collect leaves the story so
abbrev pub collected_story : Story → Kept → Story
collected_story s kept_now = keeping s (s.places + 1) kept_now

-- some of the versions that were kept are chosen, newest among them
pub record IsChoice (s : Story) (kept_now : Kept) : Type 0 where
  pub part : IsPartOfKept kept_now.slots s.kept.slots
  pub newest_in : IsIn kept_now (newest s)

-- a version that is kept then was kept
pub kept_of : (s : Story) (kept_now : Kept) → IsChoice s kept_now → (v : ℕ) → IsIn kept_now v
    → IsKept s v
unfolding IsKept
kept_of s kept_now choice v h =
    record {
      slot = h.slot;
      there = part-at kept_now.slots s.kept.slots choice.part h.slot v h.there;
    }

-- a retired block that is used is one of the map after the collect
IsRetired-collect : (k : Base) (s : Story) (m : Blocks) (n : ℕ) (kept_now : Kept) (r : RetiredBlock)
    → IsRetired k s m r → is_used (kept (keeping s n kept_now)) r ≡ true
    → IsRetired k (keeping s n kept_now) (swept (kept (keeping s n kept_now)) m) r
unfolding newest directory_of
IsRetired-collect k s m n kept_now r h used = search (rules, came-same_changes)

-- a version that is kept then has newest's block at a position, or a retired one that stays
mapped-collect : (k : Base) (s : Story) (m : Blocks) → IsTidy k s m → (n : ℕ) (kept_now : Kept)
    → IsChoice s kept_now → (v p : ℕ) → IsKept (keeping s n kept_now) v → p < tiles k
    → HasNewest (keeping s n kept_now) (swept (kept (keeping s n kept_now)) m) v p
    ⊎ IsAmongRetired (get_or (directory_of m v) p 0) v p
    (filter (is_used (kept (keeping s n kept_now))) m.retired)
unfolding kept newest directory_of IsKept
mapped-collect k s m tidy n kept_now choice v p is_kept inside =
    let came_same = came-same_changes s (keeping s n kept_now) refl in
    elim (tidy.mapped v p (kept_of s kept_now choice v is_kept) inside) [
      | inl has ↦ inl record {
        block_is = has.block_is;
        came_is = came_same p v ∙ (has.came_is ∙ sym (came_same p (newest s)));
      }
      | inr among ↦ inr (Among-filter (get_or (directory_of m v) p 0) v p
          (is_used (kept (keeping s n kept_now))) m.retired
          (λ r at. used_at kept_now.slots r is_kept.slot v is_kept.there at.since at.until) among)
    ]

-- after a collect the kept versions stand in slots, each in its own
slots-collect : (k : Base) (s : Story) (n : ℕ) (kept_now : Kept) → AreSlots k s
    → IsChoice s kept_now → AreSlots k (keeping s n kept_now)
unfolding newest IsKept
slots-collect k s n kept_now slots choice = record {
  long = part-long kept_now.slots s.kept.slots choice.part ∙ slots.long;
  each = slots.each;
  newest_in = choice.newest_in;
  published = λ v h. slots.published v (kept_of s kept_now choice v h);
  within = λ i v there. slots.within i v
      (part-at kept_now.slots s.kept.slots choice.part i v there);
  own = λ i v there. slots.own i v (part-at kept_now.slots s.kept.slots choice.part i v there);
}

-- after a collect no more versions are kept than there are slots
fewer : (k : Base) (s : Story) (n : ℕ) (kept_now : Kept) → IsChoice s kept_now
    → length (kept s) ≤ k.setting.versions
    → length (kept (keeping s n kept_now)) ≤ k.setting.versions
unfolding kept
fewer k s n kept_now choice fit = search (rules, part-few)

-- what holds after a legal log holds with fewer versions kept
pub IsTidy-keeping : (k : Base) (s : Story) (m : Blocks) → IsTidy k s m → (n : ℕ) (kept_now : Kept)
    → IsChoice s kept_now
    → IsTidy k (keeping s n kept_now) (swept (kept (keeping s n kept_now)) m)
unfolding newest bitmap_of directory_of
IsTidy-keeping k s m tidy n kept_now choice =
    let t = keeping s n kept_now in
    let used : RetiredBlock → Bool = is_used (kept t) in
    let unused : List RetiredBlock = filter (λ r. not (used r)) m.retired in
    let shape = tidy.shape in
    record {
      shape = record {
        own = shape.own;
        changed = shape.changed;
        published = shape.published;
        directories = shape.directories;
        directory = shape.directory;
        changes = shape.changes;
        blocks =
            let all = length-filter used m.retired in
            let back = length-given_back (blocks_of unused) m.free in
            let each = length-blocks_of unused in
            let sum = shape.blocks in
            omega arith;
      };
      draft = tidy.draft;
      published = tidy.published;
      unchanged = tidy.unchanged;
      slots = slots-collect k s n kept_now tidy.slots choice;
      kept_fit = fewer k s n kept_now choice tidy.kept_fit;
      once = λ b.
          let old = tidy.once b in
          let blocks = directory_of m (newest s) in
          let back = times-given_back b (blocks_of unused) m.free in
          let parts = times-filter b used m.retired in
          omega (
            arith,
            times-append b (m.free ++ own_list m.own ++ blocks) (blocks_of m.retired),
            times-append b (m.free ++ own_list m.own) blocks,
            times-append b m.free (own_list m.own),
            times-append b (given_back (blocks_of unused) m.free ++ own_list m.own ++ blocks)
                (blocks_of (filter used m.retired)),
            times-append b (given_back (blocks_of unused) m.free ++ own_list m.own) blocks,
            times-append b (given_back (blocks_of unused) m.free) (own_list m.own),
          );
      retired = All-filter (IsRetired k s m) (IsRetired k t (swept (kept t) m)) used m.retired
          (IsRetired-collect k s m n kept_now) tidy.retired;
      mapped = mapped-collect k s m tidy n kept_now choice;
    }
