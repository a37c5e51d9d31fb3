-- An order, a stored word and a scanned word keep what holds of the keeper and of each reader.
use Rattle.events.proofs.Names.{rules, ◌≡◌, ℕ, ◌+◌, ◌<◌, List, [], ◌∷◌, ◌++◌, length, map, get_or}
use Rattle.events.proofs.Names.{set, true, ap, sym, ◌∙◌, arith, Option, Some, None, cases_lt}
use Rattle.events.proofs.Names.{cases_eq, length-set, length-append, get_or-set_same, Entry, IsIn}
use Rattle.events.proofs.Names.{get_or-set_other, Command, Publish, Collect, Exact, asks, Story}
use Rattle.events.proofs.Names.{newest, IsKept, refused, Blocks, Base, pin_at, seen_in, Hand}
use Rattle.events.proofs.Names.{Keeper, Reader, kept_scanned, steps_before, write_of, IsReady}
use Rattle.events.proofs.Names.{IsTidy, Shows, IsSeenKept, KeeperSound, ReaderSound}
use Rattle.std.proofs.lemmas.Grind.{common_steps}
use Rattle.events.proofs.logs.KeptLemmas.{after-at, after-only, IsIn-after, stay-more, stay-last}
use Rattle.events.proofs.logs.KeptLemmas.{seen_in-pin_word}
use Rattle.events.proofs.accounts.SpareLemmas.{IsSpare, spare_write, write_once}

-- a kept version is shown still where a word is stored that no kept version is read from
Shows-spare : (k : Base) (s : Story) (m : Blocks) (words : List ℕ) (v at word : ℕ) → IsKept s v
    → IsSpare k s m at → Shows k s m words v
    → Shows k s m (set words at word) v
Shows-spare k s m words v at word is_kept spare shows = search (rules, get_or-set_other)

-- an order that is accepted keeps what holds of the keeper
pub KeeperSound-order : (k : Base) (s : Story) (m : Blocks) (words : List ℕ) (log : List Entry)
    (hand : Option Hand) (c : Command)
    → refused k.setting s c ≡ None → KeeperSound k s m words record { log = log; hand = hand }
    → KeeperSound k s m words record {
      log = log;
      hand = Some record { command = c; done = 0; scanned = [] };
    }
KeeperSound-order k s m words log hand c accepted sound = search rules

-- an order that is accepted keeps what holds of each reader
pub ReaderSound-order : (k : Base) (s : Story) (words : List ℕ) (log : List Entry)
    (hand : Option Hand) (c : Command) (r : ℕ) (x : Reader)
    → ReaderSound k s words record { log = log; hand = hand } r x
    → ReaderSound k s words record {
      log = log;
      hand = Some record { command = c; done = 0; scanned = [] };
    } r x
ReaderSound-order k s words log hand c r x sound = search rules

-- a word that a publish stores keeps what holds of the keeper
pub KeeperSound-write : (k : Base) (s : Story) (m : Blocks) (words : List ℕ) (log : List Entry)
    (h : Hand) → IsReady k → IsTidy k s m → h.command ≡ Publish
    → h.done < steps_before k m Publish
    → KeeperSound k s m words record { log = log; hand = Some h }
    → KeeperSound k s m (set words (write_of k s m h.done).at (write_of k s m h.done).word)
    record { log = log; hand = Some record h { done = h.done + 1 } }
KeeperSound-write k s m words log h ready tidy publish more sound =
    search (
      rules,
      spare_write,
      length-set,
      get_or-set_other,
      Shows-spare,
      cases_eq,
      get_or-set_same,
      write_once,
    )

-- a word that a publish stores keeps what holds of each reader
pub ReaderSound-write : (k : Base) (s : Story) (m : Blocks) (words : List ℕ) (log : List Entry)
    (h : Hand) (r : ℕ) (x : Reader) → IsReady k → IsTidy k s m
    → refused k.setting s Publish ≡ None → h.done < steps_before k m Publish
    → r < k.setting.sessions → ReaderSound k s words record { log = log; hand = Some h } r x
    → ReaderSound k s (set words (write_of k s m h.done).at (write_of k s m h.done).word)
    record { log = log; hand = Some record h { done = h.done + 1 } } r x
ReaderSound-write k s m words log h r x ready tidy accepted more inside sound =
    search (rules, spare_write, get_or-set_other)

-- a word that a collect loads keeps what holds of the keeper
pub KeeperSound-scan : (k : Base) (s : Story) (m : Blocks) (words : List ℕ) (log : List Entry)
    (h : Hand) (word : ℕ) → h.command ≡ Collect → IsSeenKept s word
    → h.done < steps_before k m Collect
    → KeeperSound k s m words record { log = log; hand = Some h }
    → KeeperSound k s m words record {
      log = log;
      hand = Some record h { done = h.done + 1; scanned = h.scanned ++ word ∷ [] };
    }
KeeperSound-scan k s m words log h word collect seen more sound =
    grind (arith, common_steps, length-append)

-- what a scan keeps it keeps with one more word
scanned-more : (s : Story) (words : List ℕ) (word v : ℕ) → IsIn (kept_scanned s words) v
    → IsIn (kept_scanned s (words ++ word ∷ [])) v
unfolding kept_scanned
scanned-more s words word v h =
    let was = after-only (newest s) (map seen_in words) s.kept.slots h.slot v h.there in
    record {
      slot = h.slot;
      there = search (rules, after-at, stay-more);
    }

-- a scan keeps a kept version that its last word asks for
scanned-last : (s : Story) (words : List ℕ) (word v : ℕ) → IsKept s v → asks (seen_in word) v ≡ true
    → IsIn (kept_scanned s (words ++ word ∷ [])) v
unfolding kept_scanned IsKept
scanned-last s words word v h asked = search (rules, IsIn-after, stay-last)

-- a word that a collect loads keeps what holds of each reader: the one that is passed has announced
-- what it holds
pub ReaderSound-scan : (k : Base) (s : Story) (words : List ℕ) (log : List Entry) (h : Hand) (r : ℕ)
    (x : Reader)
    → (h.command ≡ Collect → length h.scanned ≡ h.done)
    → ReaderSound k s words record { log = log; hand = Some h } r x
    → ReaderSound k s words record {
      log = log;
      hand = Some record h {
        done = h.done + 1;
        scanned = h.scanned ++ get_or words (pin_at h.done) 0 ∷ [];
      };
    } r x
ReaderSound-scan k s words log h r x scans sound =
    search (rules, cases_lt, scanned-more, length-append, seen_in-pin_word, scanned-last)

-- a version that a reader's word announces exactly is kept
pub seen_kept : (k : Base) (s : Story) (words : List ℕ) (keeper : Keeper) (r : ℕ) (x : Reader)
    → ReaderSound k s words keeper r x → IsSeenKept s (get_or words (pin_at r) 0)
seen_kept k s words keeper r x sound v is =
    let said : x.announced ≡ Some (Exact v) =
    sym (ap seen_in sound.word ∙ seen_in-pin_word x.announced)
    ∙ (ap seen_in is ∙ seen_in-pin_word (Some (Exact v))) in
    (sound.holds v (sound.exact v said)).kept
