-- The last step of a command keeps what holds of the keeper and of each reader.
use Rattle.events.proofs.Names.{rules, ◌≡◌, ℕ, zero, suc, ◌+◌, ◌-◌, ◌*◌, ◌/◌, ◌%◌, ◌<◌, ◌≤◌, ◌⊎◌}
use Rattle.events.proofs.Names.{true, false, List, [], ◌∷◌, ◌++◌, length, get_or, set, refl, ap}
use Rattle.events.proofs.Names.{sym, ◌∙◌, arith, Option, Some, None, slice_get, nat_lt, nat_tests}
use Rattle.events.proofs.Names.{length-set, get_or-set_same, get_or-set_other, inl, get_or_push}
use Rattle.events.proofs.Names.{get_or_append_left, inr, Cells, row_word, Entry, Command, Publish}
use Rattle.events.proofs.Names.{Collect, Reply, first_free, IsIn, Story, newest, bitmap_of, told}
use Rattle.events.proofs.Names.{IsKept, IsAnswer, Blocks, directory_of, own_list, mapped, moved}
use Rattle.events.proofs.Names.{Base, tiles, now_at, map_at, tile_at, now_of, Hand, slot_of}
use Rattle.events.proofs.Names.{next_slot, Reader, story, blocks, tile_steps, tile_write, IsTidy}
use Rattle.events.proofs.Names.{steps_before, own_positions, map_write, write_of, kept_scanned}
use Rattle.events.proofs.Names.{reply_of, entry_of, IsShaped, AreSlots, Shows, InHand}
use Rattle.events.proofs.Names.{KeeperSound, ReaderSound}
use Rattle.events.proofs.accounts.FreedLemmas.{reply_is_answer}
use Rattle.events.proofs.logs.LogLemmas.{newest-told, beginning-push}
use Rattle.events.proofs.shared_words.PlaceLemmas.{pin-now, map-now, tile-now, now-within}
use Rattle.events.proofs.invariants.TidyCollect.{kept_of}
use Rattle.events.proofs.invariants.TidyLog.{IsLegal-push}
use Rattle.events.proofs.invariants.TidyPublish.{newest_is, bitmap_of-publish, bitmap_of-new}
use Rattle.events.proofs.invariants.TidyPublish.{directory_of-publish, directory_of-new}
use Rattle.events.proofs.invariants.TidyPublish.{published_story, published_blocks, kept_still}
use Rattle.events.proofs.invariants.TidyPublish.{kept_published}

-- a version is shown still where NOW is stored
Shows-now : (k : Base) (s : Story) (m : Blocks) (words : List ℕ) (v word : ℕ) → Shows k s m words v
    → Shows k s m (set words now_at word) v
Shows-now k s m words v word shows = search (rules, get_or-set_other, map-now, tile-now)

-- a version whose blocks and whose bitmap are as before is shown as before
Shows-same : (k : Base) (s t : Story) (m n : Blocks) (words : List ℕ) (v : ℕ)
    → directory_of n v ≡ directory_of m v → bitmap_of t v ≡ bitmap_of s v
    → slot_of k t v ≡ slot_of k s v
    → Shows k s m words v → Shows k t n words v
Shows-same k s t m n words v blocks cells slot shows = search rules

-- no command changes the blocks of a version
pub directory_stays : (k : Base) (s : Story) (m : Blocks) (c : Command) (reply : Reply)
    → IsShaped k s m → (v : ℕ) → v ≤ newest s
    → directory_of (moved s c reply m) v ≡ directory_of m v
unfolding moved directory_of
directory_stays k s m c reply shape v h = search (rules, directory_of-publish)

-- no command changes the bitmap of a version
bitmap_stays : (k : Base) (s : Story) (m : Blocks) (c : Command) (reply : Reply) → IsShaped k s m
    → (v : ℕ) → v ≤ newest s
    → bitmap_of (told s c reply) v ≡ bitmap_of s v
unfolding told bitmap_of
bitmap_stays k s m c reply shape v h = search (rules, bitmap_of-publish)

-- no command changes the slot of a version
slot_stays : (k : Base) (s : Story) (c : Command) (reply : Reply) → AreSlots k s → (v : ℕ)
    → v < length s.published
    → slot_of k (told s c reply) v ≡ slot_of k s v
unfolding told slot_of
slot_stays k s c reply slots v h = search (rules, get_or_append_left)

-- a version that is kept after an answer was kept before, or it is the new one of a publish
kept_before : (k : Base) (s : Story) (m : Blocks) (c : Command) (reply : Reply) → IsShaped k s m
    → IsAnswer k.setting s c reply → (v : ℕ) → IsKept (told s c reply) v
    → IsKept s v ⊎ ((c ≡ Publish) × (v ≡ newest s + 1))
unfolding told IsKept newest
kept_before k s m c reply shape answer v is_kept = search (rules, kept_published, kept_of)

-- the block of a position that has changed is one of the draft's, at the place of that position
own_place : (q : ℕ) (own : List (Option ℕ)) (blocks : List ℕ) (p : ℕ) → length own ≡ length blocks
    → p < length own
    → (slice_get own p ≡ Some None)
    ⊎ ((j : ℕ) × (j < length (own_list own))
    × (get_or (own_list own) j 0 ≡ get_or (mapped own blocks) p 0)
    × (get_or (own_positions q own) j 0 ≡ q + p))
own_place q [] blocks p same h = absurd (omega arith)
own_place q (o ∷ own) [] p same h = absurd (omega arith)
own_place q (None ∷ own) (b ∷ blocks) zero same h = inl refl
own_place q (Some o ∷ own) (b ∷ blocks) zero same h = inr (0, omega arith, refl, omega arith)
own_place q (None ∷ own) (b ∷ blocks) (suc p) same h =
    elim (own_place (q + 1) own blocks p (omega arith) (omega arith)) [
      | inl none ↦ inl none
      | inr there ↦ let place = there.3 in inr (there.0, there.1, there.2, omega arith)
    ]
own_place q (Some o ∷ own) (b ∷ blocks) (suc p) same h =
    elim (own_place (q + 1) own blocks p (omega arith) (omega arith)) [
      | inl none ↦ inl none
      | inr there ↦ let place = there.3 in let within = there.1 in
          inr (suc there.0, omega arith, there.2, omega arith)
    ]

-- where a position has no block of the draft's, the new directory has newest's
pub mapped_none : (own : List (Option ℕ)) (blocks : List ℕ) (p : ℕ) → length own ≡ length blocks
    → slice_get own p ≡ Some None → get_or (mapped own blocks) p 0 ≡ get_or blocks p 0
mapped_none [] blocks p same is = absurd (cc)
mapped_none (o ∷ own) [] p same is = absurd (omega arith)
mapped_none (None ∷ own) (b ∷ blocks) zero same is = refl
mapped_none (Some o ∷ own) (b ∷ blocks) zero same is = absurd (cc)
mapped_none (o ∷ own) (b ∷ blocks) (suc p) same is = mapped_none own blocks p (omega arith) is

-- once a publish has stored its words, those of the directory are the new version's
stored_map : (k : Base) (s : Story) (m : Blocks) (words : List ℕ)
    → ((n : ℕ) → n < tile_steps m + tiles k
    → get_or words (write_of k s m n).at 0 ≡ (write_of k s m n).word)
    → (p : ℕ) → p < tiles k
    → get_or words (map_at k (next_slot k s) p) 0
    ≡ get_or (mapped m.own (directory_of m (newest s))) p 0
unfolding map_write
stored_map k s m words stored p h =
    let n = tile_steps m + p in
    let test : nat_lt n (tile_steps m) ≡ false = not_below (tile_steps m) p in
    let place : n - tile_steps m ≡ p = omega arith in
    let at : write_of k s m n ≡ map_write k s m p = rw test (ap (map_write k s m) place) in
    sym (ap (λ w. get_or words w.at 0) at) ∙ (stored n (omega arith) ∙ ap (λ w. w.word) at)
  where
    not_below : (t p : ℕ) → nat_lt (t + p) t ≡ false
    not_below t p = grind (arith, nat_tests)

-- once a publish has stored its words, those of the draft's blocks are the draft's rows
stored_tile : (k : Base) (s : Story) (m : Blocks) (words : List ℕ)
    → ((n : ℕ) → n < tile_steps m + tiles k
    → get_or words (write_of k s m n).at 0 ≡ (write_of k s m n).word)
    → (j i : ℕ) → j < length (own_list m.own) → i < 64
    → get_or words (tile_at k (get_or (own_list m.own) j 0) i) 0
    ≡ row_word s.draft (get_or (own_positions 0 m.own) j 0) i
unfolding tile_write
stored_tile k s m words stored j i hj hi =
    let n = 64 * j + i in
    let below : n < tile_steps m = omega arith in
    let test : nat_lt n (tile_steps m) ≡ true = is_below n (tile_steps m) below in
    let block : n / 64 ≡ j = omega arith in
    let row : n % 64 ≡ i = omega arith in
    let at : write_of k s m n ≡ record {
      at = tile_at k (get_or (own_list m.own) j 0) i;
      word = row_word s.draft (get_or (own_positions 0 m.own) j 0) i;
    } = search rules in
    sym (ap (λ w. get_or words w.at 0) at) ∙ (stored n (omega arith) ∙ ap (λ w. w.word) at)
  where
    is_below : (n t : ℕ) → n < t → nat_lt n t ≡ true
    is_below n t h = grind (arith, nat_tests)

-- after all words of a publish are stored, the new version is shown
Shows-new : (k : Base) (s : Story) (m : Blocks) (words : List ℕ) → IsTidy k s m
    → ((n : ℕ) → n < tile_steps m + tiles k
    → get_or words (write_of k s m n).at 0 ≡ (write_of k s m n).word)
    → Shows k s m words (newest s) → (v : ℕ) → v ≡ newest s + 1
    → Shows k (published_story s) (published_blocks s m) words v
unfolding slot_of next_slot
Shows-new k s m words tidy stored shows v is =
    let shape = tidy.shape in
    let long = shape.own in
    let same : length m.own ≡ length (directory_of m (newest s)) = search rules in
    let blocks = directory_of-new k s m shape v is in
    let cells = bitmap_of-new k s m shape v is in
    let at = newest_is k s m shape in
    let each = tidy.slots.each in
    let slot : get_or (s.slots ++ first_free s.kept.slots ∷ []) v 0 ≡ first_free s.kept.slots =
    get_or_push s.slots (first_free s.kept.slots) 0 v (omega arith) in
    record {
      mapped = λ p inside. search (rules, stored_map);
      rows = λ p i inside row.
          ap (λ (d : List ℕ). get_or words (tile_at k (get_or d p 0) i) 0) blocks
          ∙ (row_of k s m words tidy stored shows same p i inside row
          (own_place 0 m.own (directory_of m (newest s)) p same (omega arith))
          ∙ sym (ap (λ (b : Cells). row_word b p i) cells));
    }
  where
    row_of : (k : Base) (s : Story) (m : Blocks) (words : List ℕ) → IsTidy k s m
        → ((n : ℕ) → n < tile_steps m + tiles k
        → get_or words (write_of k s m n).at 0 ≡ (write_of k s m n).word)
        → Shows k s m words (newest s) → length m.own ≡ length (directory_of m (newest s))
        → (p i : ℕ) → p < tiles k → i < 64
        → (slice_get m.own p ≡ Some None)
        ⊎ ((j : ℕ) × (j < length (own_list m.own))
        × (get_or (own_list m.own) j 0 ≡ get_or (mapped m.own (directory_of m (newest s))) p 0)
        × (get_or (own_positions 0 m.own) j 0 ≡ 0 + p))
        → get_or words (tile_at k (get_or (mapped m.own (directory_of m (newest s))) p 0) i) 0
        ≡ row_word s.draft p i
    row_of k s m words tidy stored shows same p i inside row (inl none) =
        ap (λ (b : ℕ). get_or words (tile_at k b i) 0)
        (mapped_none m.own (directory_of m (newest s)) p same none)
        ∙ (shows.rows p i inside row ∙ sym (tidy.unchanged p i none row))
    row_of k s m words tidy stored shows same p i inside row (inr there) =
        let place : 0 + p ≡ p = omega arith in
        ap (λ (b : ℕ). get_or words (tile_at k b i) 0) (sym there.2)
        ∙ (stored_tile k s m words stored there.0 i there.1 row
        ∙ ap (λ (q : ℕ). row_word s.draft q i) (there.3 ∙ place))

-- after an answer each kept version is shown
Shows-told : (k : Base) (s : Story) (m : Blocks) (words : List ℕ) (h : Hand) (reply : Reply)
    → IsTidy k s m → IsAnswer k.setting s h.command reply
    → ((v : ℕ) → IsKept s v → Shows k s m words v) → InHand k s m words h
    → h.done ≡ steps_before k m h.command
    → (v : ℕ) → IsKept (told s h.command reply) v
    → Shows k (told s h.command reply) (moved s h.command reply m) words v
unfolding steps_before told moved
Shows-told k s m words h reply tidy answer shows inhand all v is_kept =
    let at = newest_is k s m tidy.shape in
    elim (kept_before k s m h.command reply tidy.shape answer v is_kept) [
      | inl old ↦ search (rules, Shows-same, directory_stays, bitmap_stays, slot_stays)
      | inr new ↦ search (rules, Shows-new)
    ]

-- the last step of a command keeps what holds of the keeper
pub KeeperSound-commit : (k : Base) (log : List Entry) (words : List ℕ) (h : Hand)
    → IsTidy k (story k log) (blocks k log)
    → KeeperSound k (story k log) (blocks k log) words record { log = log; hand = Some h }
    → h.done ≡ steps_before k (blocks k log) h.command
    → KeeperSound k (told (story k log) h.command (reply_of (story k log) h.command h.scanned))
    (moved (story k log) h.command (reply_of (story k log) h.command h.scanned) (blocks k log))
    (set words now_at
    (now_of (told (story k log) h.command (reply_of (story k log) h.command h.scanned))))
    record { log = log ++ entry_of (story k log) h ∷ []; hand = None }
unfolding story
KeeperSound-commit k log words h tidy sound all =
    search (
      rules,
      reply_is_answer,
      now-within,
      length-set,
      IsLegal-push,
      get_or-set_same,
      Shows-now,
      Shows-told,
    )

-- a kept version is kept still, where a collect keeps it
kept_stays : (s : Story) (c : Command) (words : List ℕ) (v : ℕ) → IsKept s v
    → (c ≡ Collect → IsIn (kept_scanned s words) v) → IsKept (told s c (reply_of s c words)) v
unfolding told reply_of IsKept
kept_stays s c words v is_kept above = search (rules, kept_still)

-- a collect that has done all of its scan has passed each reader
scanned_all : (k : Base) (m : Blocks) (h : Hand) (r : ℕ) → r < k.setting.sessions
    → h.command ≡ Collect → h.done ≡ steps_before k m h.command
    → length h.scanned ≡ h.done → r < length h.scanned
unfolding steps_before
scanned_all k m h r inside collect all count = search rules

-- the last step of a command keeps what holds of each reader: what it holds is kept, since the scan
-- has passed it
pub ReaderSound-commit : (k : Base) (log : List Entry) (words : List ℕ) (h : Hand) (r : ℕ)
    (x : Reader) → r < k.setting.sessions
    → InHand k (story k log) (blocks k log) words h
    → h.done ≡ steps_before k (blocks k log) h.command
    → ReaderSound k (story k log) words record { log = log; hand = Some h } r x
    → ReaderSound k (told (story k log) h.command (reply_of (story k log) h.command h.scanned))
    (set words now_at
    (now_of (told (story k log) h.command (reply_of (story k log) h.command h.scanned))))
    record { log = log ++ entry_of (story k log) h ∷ []; hand = None } r x
ReaderSound-commit k log words h r x inside inhand all sound =
    search (rules, newest-told, beginning-push, get_or-set_other, pin-now, kept_stays, scanned_all)
