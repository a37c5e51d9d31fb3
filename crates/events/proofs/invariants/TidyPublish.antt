-- After one more publish each part of what holds after a legal log holds again.
use Rattle.events.proofs.Names.{rules, ◌≡◌, ℕ, suc, ◌+◌, ◌<◌, ◌≤◌, ◌⊎◌, Bool, true, false, List, []}
use Rattle.events.proofs.Names.{◌∷◌, ◌++◌, length, map, replicate, get_or, refl, ap, subst, sym}
use Rattle.events.proofs.Names.{◌∙◌, arith, Option, None, is_some, AllByRecursion, cases_lt}
use Rattle.events.proofs.Names.{length-append, length-set, inl, inr, get_or_append_left, Story}
use Rattle.events.proofs.Names.{get_or_push, get_or-set_same, first_free, with_version, newest}
use Rattle.events.proofs.Names.{bitmap_of, kept, IsKept, came, RetiredBlock, Blocks, directory_of}
use Rattle.events.proofs.Names.{own_list, mapped, Base, replaced, blocks_of, is_used, tiles, times}
use Rattle.events.proofs.Names.{IsRetired, IsAmongRetired, HasNewest, AreSlots, IsShaped, IsTidy}
use Rattle.std.proofs.lemmas.Grind.{common_steps}
use Rattle.events.proofs.accounts.CameLemmas.{came-push, came-le, came-same, changed_before-push}
use Rattle.events.proofs.accounts.CameLemmas.{changed_before_new}
use Rattle.events.proofs.logs.KeptLemmas.{first_free-le, members-add, IsIn-add, added_at}
use Rattle.events.proofs.accounts.RetiredLemmas.{All-append, All-each, All-replaced, used_at}
use Rattle.events.proofs.accounts.RetiredLemmas.{Among-append_left, Among-append_right, used_by}
use Rattle.events.proofs.accounts.RetiredLemmas.{Among-replaced}
use Rattle.events.proofs.accounts.TimesLemmas.{times-append, blocks_of-append, own_list-none}
use Rattle.events.proofs.accounts.TimesLemmas.{is_some-none, times-mapped, length-mapped}
use Rattle.events.proofs.accounts.TimesLemmas.{length-replaced, mapped-None}

-- another publish leaves the story so
abbrev pub published_story : Story → Story
published_story s =
    record s {
      places = s.places + 1;
      published = s.published ++ s.draft ∷ [];
      changes = s.changes ++ s.changed ∷ [];
      changed = replicate (length s.changed) false;
      kept = with_version s.kept (newest s + 1);
      slots = s.slots ++ first_free s.kept.slots ∷ [];
    }

-- where the blocks stand after one more publish
abbrev pub published_blocks : Story → Blocks → Blocks
published_blocks s m =
    record m {
      own = replicate (length m.own) None;
      directories = m.directories ++ mapped m.own (directory_of m (newest s)) ∷ [];
      retired = m.retired ++ replaced s 0 m.own (directory_of m (newest s));
    }

-- a publish makes one more version
pub newest-publish : (k : Base) (s : Story) (m : Blocks) → IsShaped k s m
    → newest (published_story s) ≡ newest s + 1
unfolding newest
newest-publish k s m shape =
    omega (arith, length-append s.published (s.draft ∷ []), shape.published)

-- the newest version is the number of publishes
pub newest_is : (k : Base) (s : Story) (m : Blocks) → IsShaped k s m → (newest s ≡ length s.changes)
    × (length s.published ≡ newest s + 1) × (length m.directories ≡ newest s + 1)
unfolding newest
newest_is k s m shape = search rules

-- each version before keeps its bitmap
pub bitmap_of-publish : (k : Base) (s : Story) (m : Blocks) → IsShaped k s m → (v : ℕ)
    → v ≤ newest s → bitmap_of (published_story s) v ≡ bitmap_of s v
unfolding bitmap_of
bitmap_of-publish k s m shape v h = search (rules, get_or_append_left, newest_is)

-- the new version is the draft
pub bitmap_of-new : (k : Base) (s : Story) (m : Blocks) → IsShaped k s m → (v : ℕ)
    → v ≡ newest s + 1 → bitmap_of (published_story s) v ≡ s.draft
unfolding bitmap_of
bitmap_of-new k s m shape v is = search (rules, get_or_push, newest_is)

-- each version before keeps its blocks
pub directory_of-publish : (k : Base) (s : Story) (m : Blocks) → IsShaped k s m → (v : ℕ)
    → v ≤ newest s → directory_of (published_blocks s m) v ≡ directory_of m v
unfolding directory_of
directory_of-publish k s m shape v h = search (rules, get_or_append_left, newest_is)

-- a directory that is put at the end is that of the new version
new_entry : (m : Blocks) (blocks : List ℕ) (own : List (Option ℕ)) (retired : List RetiredBlock)
    (v : ℕ) → length m.directories ≡ v
    → directory_of record m {
      own = own;
      directories = m.directories ++ blocks ∷ [];
      retired = retired;
    } v ≡ blocks
unfolding directory_of
new_entry m blocks own retired v at = get_or_push m.directories blocks [] v at

-- the new version has the draft's own blocks, and newest's where the draft has none
pub directory_of-new : (k : Base) (s : Story) (m : Blocks) → IsShaped k s m → (v : ℕ)
    → v ≡ newest s + 1
    → directory_of (published_blocks s m) v ≡ mapped m.own (directory_of m (newest s))
directory_of-new k s m shape v is = search (rules, new_entry, newest_is)

-- a position has changed where the draft has its own block there
changed_at : (k : Base) (s : Story) (m : Blocks) → IsShaped k s m → (p : ℕ)
    → get_or s.changed p false ≡ get_or (map is_some m.own) p false
changed_at k s m shape p = ap (λ (bs : List Bool). get_or bs p false) shape.changed

-- newest's blocks and the draft's are one for each position
same_length : (k : Base) (s : Story) (m : Blocks) → IsShaped k s m
    → length m.own ≡ length (directory_of m (newest s))
same_length k s m shape = shape.own ∙ sym (shape.directory (newest s) (omega arith))

-- the lists after a publish are as long as they should be
shape-publish : (k : Base) (s : Story) (m : Blocks) → IsShaped k s m
    → IsShaped k (published_story s) (published_blocks s m)
shape-publish k s m shape =
    grind (
      arith,
      common_steps,
      newest-publish,
      newest_is,
      same_length,
      is_some-none,
      directory_of-new,
      length-mapped,
      directory_of-publish,
      length-replaced,
      own_list-none,
    )

-- a version that is kept after a publish was kept before, or it is the new one
pub kept_published : (s : Story) (v : ℕ) → IsKept (published_story s) v → IsKept s v
    ⊎ (v ≡ newest s + 1)
unfolding IsKept
kept_published s v h = grind (arith, common_steps, added_at)

-- a version that was kept is kept
pub kept_still : (s : Story) (v : ℕ) → IsKept s v → IsKept (published_story s) v
unfolding IsKept
kept_still s v h = IsIn-add s.kept (newest s + 1) v h

-- a block that was used is used
used_still : (s : Story) (r : RetiredBlock) → is_used (kept s) r ≡ true
    → is_used (kept (published_story s)) r ≡ true
unfolding kept
used_still s r used =
    let user = used_by s.kept.slots r used in
    let still = IsIn-add s.kept (newest s + 1) user.version
    record { slot = user.slot; there = user.there } in
    used_at (with_version s.kept (newest s + 1)).slots r still.slot user.version still.there
    user.since user.until

-- a block of newest is used
used_newest : (s : Story) (r : RetiredBlock) → IsKept s (newest s) → r.first ≤ newest s
    → newest s ≤ r.last → is_used (kept (published_story s)) r ≡ true
unfolding kept IsKept
used_newest s r newest_in since until =
    let still = IsIn-add s.kept (newest s + 1) (newest s) newest_in in
    used_at (with_version s.kept (newest s + 1)).slots r still.slot
    (newest s) still.there since until

-- a publish finds a slot of the setting
pub slot_found : (k : Base) (s : Story) → AreSlots k s → k.setting.versions ≤ 64
    → length (kept s) < k.setting.versions → (first_free s.kept.slots < k.setting.versions)
    × (first_free s.kept.slots < length s.kept.slots)
unfolding kept
slot_found k s slots few room = search (rules, first_free-le)

-- the new version is kept
new_kept : (s : Story) → first_free s.kept.slots < length s.kept.slots
    → IsKept (published_story s) (newest s + 1)
unfolding IsKept
new_kept s h =
    record {
      slot = first_free s.kept.slots;
      there = get_or-set_same s.kept.slots (first_free s.kept.slots) (suc (newest s + 1)) 0 h;
    }

-- a version that a slot has is kept
is_kept : (s : Story) (i v : ℕ) → get_or s.kept.slots i 0 ≡ suc v → IsKept s v
unfolding IsKept
is_kept s i v there = record { slot = i; there = there }

-- after a publish the kept versions stand in slots, each in its own
slots-publish : (k : Base) (s : Story) (m : Blocks) → IsShaped k s m → AreSlots k s
    → k.setting.versions ≤ 64 → length (kept s) < k.setting.versions
    → AreSlots k (published_story s)
slots-publish k s m shape slots few room =
    let now = newest-publish k s m shape in
    let at = newest_is k s m shape in
    let found = slot_found k s slots few room in
    let ff = first_free s.kept.slots in
    let each = slots.each in
    record {
      long = length-set s.kept.slots ff (suc (newest s + 1)) ∙ slots.long;
      each = omega (
        arith,
        length-append s.slots (ff ∷ []),
        length-append s.published (s.draft ∷ []),
      );
      newest_in = subst (λ (v : ℕ). IsKept (published_story s) v) (sym now) (new_kept s found.1);
      published = λ v h.
          elim (kept_published s v h) [
            | inl old ↦ let before = slots.published v old in omega arith
            | inr new ↦ omega arith
          ];
      within = λ i v there.
          elim (added_at s.kept.slots (newest s + 1) i v there) [
            | inl old ↦ slots.within i v old
            | inr new ↦ let first = found.0 in let same = new.0 in omega arith
          ];
      own = λ i v there.
          elim (added_at s.kept.slots (newest s + 1) i v there) [
            | inl old ↦ let before = slots.published v (is_kept s i v old) in
                get_or_append_left s.slots (ff ∷ []) 0 v (omega arith) ∙ slots.own i v old
            | inr new ↦ let same = new.1 in get_or_push s.slots ff 0 v (omega arith) ∙ sym new.0
          ];
    }

-- a retired block stays retired after a publish
IsRetired-publish : (k : Base) (s : Story) (m : Blocks) → IsShaped k s m → (r : RetiredBlock)
    → IsRetired k s m r → IsRetired k (published_story s) (published_blocks s m) r
IsRetired-publish k s m shape r h =
    grind (
      arith,
      common_steps,
      newest-publish,
      used_still,
      changed_before-push,
      came-push,
      directory_of-publish,
    )

-- the blocks that a publish replaces are retired
IsRetired-new : (k : Base) (s : Story) (m : Blocks) → IsTidy k s m
    → AllByRecursion (IsRetired k (published_story s) (published_blocks s m))
    (replaced s 0 m.own (directory_of m (newest s)))
IsRetired-new k s m tidy =
    let shape = tidy.shape in
    let now = newest-publish k s m shape in
    let at = newest_is k s m shape in
    let same = same_length k s m shape in
    All-replaced (IsRetired k (published_story s) (published_blocks s m)) s 0 m.own
    (directory_of m (newest s)) same (λ j h is. record {
      inside = let own = shape.own in omega arith;
      used = search (rules, used_newest, came-le);
      before = omega arith;
      gone = changed_before_new s (published_story s) s.changed refl (newest s) (0 + j)
          (omega arith)
          ∙ (changed_at k s m shape (0 + j)
          ∙ (ap (λ (p : ℕ). get_or (map is_some m.own) p false)
          (let same_place : 0 + j ≡ j = omega arith in same_place) ∙ is));
      first_is = search (rules, came-push);
      block_is = search (rules, directory_of-publish);
    })
  where
    get_or' : List ℕ → ℕ → ℕ
    get_or' xs p = get_or xs p 0

-- a kept version has newest's block at a position, or a retired one
mapped-publish : (k : Base) (s : Story) (m : Blocks) → IsTidy k s m → (v p : ℕ)
    → IsKept (published_story s) v → p < tiles k
    → HasNewest (published_story s) (published_blocks s m) v p
    ⊎ IsAmongRetired (get_or (directory_of (published_blocks s m) v) p 0) v p
    (m.retired ++ replaced s 0 m.own (directory_of m (newest s)))
mapped-publish k s m tidy v p is_kept inside =
    let shape = tidy.shape in
    let t = published_story s in
    let n = published_blocks s m in
    let now = newest-publish k s m shape in
    let at = newest_is k s m shape in
    let same = same_length k s m shape in
    let long = shape.own in
    let next : newest t ≡ suc (newest s) = omega arith in
    elim (kept_published s v is_kept) [
      | inr new ↦ search rules
      | inl was ↦
          let old = tidy.slots.published v was in
          let kept_blocks = ap (λ (d : List ℕ). get_or d p 0)
          (directory_of-publish k s m shape v old) in
          elim (tidy.mapped v p was inside) [
            | inl has ↦
                elim (get_or (map is_some m.own) p false) as
                (λ b. get_or (map is_some m.own) p false ≡ b
                → HasNewest t n v p
                ⊎ IsAmongRetired (get_or (directory_of n v) p 0) v p
                (m.retired ++ replaced s 0 m.own (directory_of m (newest s)))) [
                  | true ↦ λ is.
                      let came_low = came-le s p v in
                      let came_same = has.came_is in
                      let place : 0 + p ≡ p = omega arith in
                      let came_place = ap (λ (q : ℕ). came s q (newest s)) place in
                      let among = Among-replaced s 0 m.own (directory_of m (newest s)) p v same
                      (omega arith) is (omega arith) old in
                      inr (subst (λ (b : ℕ). IsAmongRetired b v p
                      (m.retired ++ replaced s 0 m.own (directory_of m (newest s))))
                      (sym (kept_blocks ∙ has.block_is))
                      (Among-append_right _ v p m.retired _
                      (subst (λ (q : ℕ). IsAmongRetired (get_or (directory_of m (newest s)) p 0) v
                      q (replaced s 0 m.own (directory_of m (newest s)))) place among)))
                  | false ↦ λ is. inl record {
                    block_is = search (rules, mapped-None, directory_of-new);
                    came_is = came-push s t s.changed refl p v (omega arith)
                        ∙ (has.came_is
                        ∙ (sym (came-push s t s.changed refl p (newest s) (omega arith))
                        ∙ (sym (came-same t p (newest s)
                        (changed_before_new s t s.changed refl (newest s) p (omega arith)
                        ∙ (changed_at k s m shape p ∙ is)))
                        ∙ ap (came t p) (sym next))));
                  }
                ] refl
            | inr among ↦ search (rules, Among-append_left)
          ]
    ]

-- after a publish no more versions are kept than there are slots
one_more : (k : Base) (s : Story) → first_free s.kept.slots < length s.kept.slots
    → length (kept s) < k.setting.versions → length (kept (published_story s)) ≤ k.setting.versions
unfolding kept
one_more k s found room = let more = members-add s.kept.slots (newest s + 1) found in omega arith

-- what holds after a legal log holds after one more publish
pub IsTidy-publish : (k : Base) (s : Story) (m : Blocks) → IsTidy k s m → k.setting.versions ≤ 64
    → length (kept s) < k.setting.versions → IsTidy k (published_story s) (published_blocks s m)
IsTidy-publish k s m tidy few room =
    let shape = tidy.shape in
    let t = published_story s in
    let n = published_blocks s m in
    let now = newest-publish k s m shape in
    let same = same_length k s m shape in
    record {
      shape = shape-publish k s m shape;
      draft = tidy.draft;
      published = λ v h. search (rules, cases_lt, bitmap_of-new, bitmap_of-publish);
      unchanged = λ p i none h. search (rules, bitmap_of-new);
      slots = slots-publish k s m shape tidy.slots few room;
      kept_fit = one_more k s (slot_found k s tidy.slots few room).1 room;
      once = λ b.
          let old = tidy.once b in
          let blocks = directory_of m (newest s) in
          let gone = ap (times b) (own_list-none (length m.own)) in
          let new_directory = ap (times b) (directory_of-new k s m shape (newest t) now) in
          let stands = times-mapped b s 0 m.own blocks same in
          let all = ap (times b) (blocks_of-append m.retired (replaced s 0 m.own blocks))
          ∙ times-append b (blocks_of m.retired) (blocks_of (replaced s 0 m.own blocks)) in
          omega (
            arith,
            times-append b (m.free ++ own_list m.own ++ blocks) (blocks_of m.retired),
            times-append b (m.free ++ own_list m.own) blocks,
            times-append b m.free (own_list m.own),
            times-append b (m.free ++ own_list n.own ++ directory_of n (newest t))
                (blocks_of n.retired),
            times-append b (m.free ++ own_list n.own) (directory_of n (newest t)),
            times-append b m.free (own_list n.own),
          );
      retired = search (rules, All-append, All-each, IsRetired-publish, IsRetired-new);
      mapped = mapped-publish k s m tidy;
    }
