-- What a publish stores lies where no kept version is read, and no word of it is stored over.
use Rattle.events.proofs.Names.{rules, ◌≡◌, ◌≢◌, ℕ, zero, suc, ◌-◌, ◌<◌, ◌≤◌, cond, List, [], ◌∷◌}
use Rattle.events.proofs.Names.{◌++◌, length, get_or, refl, ap, sym, ◌∙◌, arith, None, nat_lt}
use Rattle.events.proofs.Names.{cases_lt, nat_tests, Publish, Story, newest, IsKept, refused}
use Rattle.events.proofs.Names.{Blocks, directory_of, own_list, blocks_of, Base, tiles, now_at}
use Rattle.events.proofs.Names.{word_count, pin_at, map_at, tile_at, slot_of, next_slot, Write}
use Rattle.events.proofs.Names.{tile_steps, steps_before, tile_write, map_write, write_of, times}
use Rattle.events.proofs.Names.{IsReady, AreSlots, IsTidy}
use Rattle.events.proofs.shared_words.PlaceLemmas.{map-now, tile-now, map-pin, tile-pin, tile-map}
use Rattle.events.proofs.shared_words.PlaceLemmas.{map-map, map-position, tile-tile, map-within}
use Rattle.events.proofs.shared_words.PlaceLemmas.{tile-within}
use Rattle.events.proofs.invariants.SoundBlocks.{at_most_once, kept_apart}
use Rattle.events.proofs.logs.KeptLemmas.{slot_other}
use Rattle.events.proofs.invariants.TidyLog.{room_for}
use Rattle.events.proofs.invariants.TidyPublish.{slot_found}
use Rattle.events.proofs.accounts.TimesLemmas.{times-at, times-append}

-- the slot of a version has it, and is one of the setting's
pub record IsAtSlot (k : Base) (s : Story) (v : ℕ) : Type 0 where
  pub there : get_or s.kept.slots (slot_of k s v) 0 ≡ suc v
  pub within : slot_of k s v < k.setting.versions

-- the slot of a kept version is the one that has it
slot_kept : (k : Base) (s : Story) → AreSlots k s → (v : ℕ) (h : IsKept s v) → IsAtSlot k s v
unfolding slot_of IsKept
slot_kept k s slots v h =
    record {
      there = ap (λ (i : ℕ). get_or s.kept.slots i 0) (slots.own h.slot v h.there) ∙ h.there;
      within = let own = slots.own h.slot v h.there in
          let in_setting = slots.within h.slot v h.there in omega arith;
    }

-- the slot of a kept version is one of the setting's
pub slot-within : (k : Base) (s : Story) → AreSlots k s → (v : ℕ) → IsKept s v
    → slot_of k s v < k.setting.versions
slot-within k s slots v h = (slot_kept k s slots v h).within

-- the slot of a publish is one of the setting's
pub next-within : (k : Base) (s : Story) (m : Blocks) → IsReady k → IsTidy k s m
    → refused k.setting s Publish ≡ None → next_slot k s < k.setting.versions
unfolding next_slot
next-within k s m ready tidy accepted =
    (slot_found k s tidy.slots ready.few_versions (room_for k.setting s accepted)).0

-- the slot of a publish is none of a kept version's
slot_apart : (k : Base) (s : Story) → AreSlots k s → (v : ℕ) → IsKept s v
    → next_slot k s ≢ slot_of k s v
unfolding next_slot
slot_apart k s slots v h same =
    slot_other s.kept.slots (slot_of k s v) v (slot_kept k s slots v h).there (sym same)

-- a block of the draft's is one of the map's blocks
pub own_within : (k : Base) (s : Story) (m : Blocks) → IsTidy k s m → (j : ℕ)
    → j < length (own_list m.own) → get_or (own_list m.own) j 0 < k.setting.blocks
own_within k s m tidy j h =
    let b = get_or (own_list m.own) j 0 in
    let there = times-at b (own_list m.own) j 0 h refl in
    let all = tidy.once b in
    let counted : 1 ≤ cond (nat_lt b k.setting.blocks) 1 0 =
    omega (
      arith,
      times-append b (m.free ++ own_list m.own ++ directory_of m (newest s))
          (blocks_of m.retired),
      times-append b (m.free ++ own_list m.own) (directory_of m (newest s)),
      times-append b m.free (own_list m.own),
    ) in
    below b k.setting.blocks counted
  where
    below : (b n : ℕ) → 1 ≤ cond (nat_lt b n) 1 0 → b < n
    below b n h = grind (arith, nat_tests)

-- a block of the draft's is none that a kept version maps
own_apart : (k : Base) (s : Story) (m : Blocks) → IsTidy k s m → (j : ℕ)
    → j < length (own_list m.own) → (v p : ℕ) → IsKept s v → p < tiles k
    → get_or (own_list m.own) j 0 ≢ get_or (directory_of m v) p 0
own_apart k s m tidy j h v p is_kept inside same =
    let there = times-at (get_or (own_list m.own) j 0) (own_list m.own) j 0 h refl in
    let apart = kept_apart k s m tidy v p (get_or (own_list m.own) j 0) is_kept inside (sym same) in
    let none = apart.1 in
    absurd (omega arith)

-- a number that stands at most once stands at one place
one_place : (b : ℕ) (xs : List ℕ) (i j : ℕ) → times b xs ≤ 1 → i < length xs → j < length xs
    → get_or xs i 0 ≡ b → get_or xs j 0 ≡ b → i ≡ j
one_place b [] i j once hi hj at_i at_j = absurd (omega arith)
one_place b (x ∷ xs) zero zero once hi hj at_i at_j = refl
one_place b (x ∷ xs) zero (suc j) once hi hj at_i at_j = search (rules, times-at)
one_place b (x ∷ xs) (suc i) zero once hi hj at_i at_j = search (rules, times-at)
one_place b (x ∷ xs) (suc i) (suc j) once hi hj at_i at_j =
    search (rules, one_place b xs i j (omega arith) (omega arith) (omega arith) at_i at_j)

-- two places of the draft's blocks have two blocks
own_once : (k : Base) (s : Story) (m : Blocks) → IsTidy k s m → (i j : ℕ)
    → i < length (own_list m.own) → j < length (own_list m.own)
    → get_or (own_list m.own) i 0 ≡ get_or (own_list m.own) j 0 → i ≡ j
own_once k s m tidy i j hi hj same =
    let few = at_most_once k s m tidy (get_or (own_list m.own) j 0) in
    one_place (get_or (own_list m.own) j 0) (own_list m.own) i j (omega arith) hi hj same refl

-- no kept version is read at this place
pub record IsSpare (k : Base) (s : Story) (m : Blocks) (at : ℕ) : Type 0 where
  pub within : at < word_count k
  pub now : at ≢ now_at
  pub pin : (r : ℕ) → r < k.setting.sessions → at ≢ pin_at r
  pub map : (v p : ℕ) → IsKept s v → p < tiles k → at ≢ map_at k (slot_of k s v) p
  pub tile : (v p i : ℕ) → IsKept s v → p < tiles k → i < 64
      → at ≢ tile_at k (get_or (directory_of m v) p 0) i

-- a row of the draft's blocks that a publish stores lies where no kept version is read
spare_tile : (k : Base) (s : Story) (m : Blocks) → IsReady k → IsTidy k s m → (n : ℕ)
    → n < tile_steps m → IsSpare k s m (tile_write k s m n).at
unfolding tile_write
spare_tile k s m ready tidy n h =
    search (
      rules,
      tile-within,
      own_within,
      tile-now,
      tile-pin,
      tile-map,
      slot-within,
      own_apart,
      tile-tile,
    )

-- a word of the new directory that a publish stores lies where no kept version is read
spare_map : (k : Base) (s : Story) (m : Blocks) → IsReady k → IsTidy k s m
    → refused k.setting s Publish ≡ None → (p : ℕ) → p < tiles k
    → IsSpare k s m (map_write k s m p).at
unfolding map_write
spare_map k s m ready tidy accepted p h =
    search (rules, next-within, map-within, map-now, map-pin, map-map, slot_apart, tile-map)

-- what holds of the words for blocks and of the directory's words holds of each word that a publish
-- stores
write_cases : (P : Write → Type 0) (k : Base) (s : Story) (m : Blocks) (n : ℕ)
    → (n < tile_steps m → P (tile_write k s m n))
    → (tile_steps m ≤ n → P (map_write k s m (n - tile_steps m))) → P (write_of k s m n)
write_cases P k s m n first later = search (rules, cases_lt, nat_tests)

-- each word that a publish stores lies where no kept version is read
pub spare_write : (k : Base) (s : Story) (m : Blocks) → IsReady k → IsTidy k s m
    → refused k.setting s Publish ≡ None → (n : ℕ) → n < steps_before k m Publish
    → IsSpare k s m (write_of k s m n).at
unfolding steps_before
spare_write k s m ready tidy accepted n h = search (rules, write_cases, spare_tile, spare_map)

-- two rows of the draft's blocks are two words
tile_once : (k : Base) (s : Story) (m : Blocks) → IsTidy k s m → (n q : ℕ) → n < tile_steps m
    → q < tile_steps m → (tile_write k s m n).at ≡ (tile_write k s m q).at → n ≡ q
unfolding tile_write
tile_once k s m tidy n q hn hq same = search (rules, tile-tile, own_once)

-- a row of the draft's blocks is no word of the new directory
tile_or_map : (k : Base) (s : Story) (m : Blocks) → IsReady k → IsTidy k s m
    → refused k.setting s Publish ≡ None → (n p : ℕ) → p < tiles k
    → (tile_write k s m n).at ≢ (map_write k s m p).at
unfolding tile_write map_write
tile_or_map k s m ready tidy accepted n p h = search (rules, tile-map, next-within)

-- two words of the new directory are two
map_once : (k : Base) (s : Story) (m : Blocks) (p q : ℕ)
    → (map_write k s m p).at ≡ (map_write k s m q).at → p ≡ q
unfolding map_write
map_once k s m p q same = map-position k _ p q same

-- no word of a publish is stored twice
pub write_once : (k : Base) (s : Story) (m : Blocks) → IsReady k → IsTidy k s m
    → refused k.setting s Publish ≡ None → (n q : ℕ) → n < steps_before k m Publish
    → q < steps_before k m Publish
    → (write_of k s m n).at ≡ (write_of k s m q).at → n ≡ q
unfolding steps_before
write_once k s m ready tidy accepted n q hn hq =
    search (rules, write_cases, tile_once, tile_or_map, map_once)
