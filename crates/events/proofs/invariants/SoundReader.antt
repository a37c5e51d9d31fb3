-- The steps of a reader keep what holds of it, of each other reader, and of the keeper.
use Rattle.events.proofs.Names.{rules, ◌≡◌, ◌≢◌, ℕ, ◌^◌, ◌<◌, ◌≤◌, ◌⊎◌, ◌&&◌, true, false, List}
use Rattle.events.proofs.Names.{if◌then◌else◌, length, get_or, set, refl, ap, subst, sym, ◌∙◌}
use Rattle.events.proofs.Names.{arith, Option, Some, None, IfSome, is_some, is_none, inl, inr}
use Rattle.events.proofs.Names.{nat_tests, length-set, get_or-set_same, get_or-set_other, Entry}
use Rattle.events.proofs.Names.{Seen, From, Exact, IsIn, asks, Story, newest, IsKept, Base, Hand}
use Rattle.events.proofs.Names.{IsLegal, Blocks, word_count, now_at, pin_at, map_at, tile_at}
use Rattle.events.proofs.Names.{now_word, now_of, place_told, version_told, pin_word, slot_of}
use Rattle.events.proofs.Names.{Keeper, Reader, story, newest_seen, next_hold, kept_scanned}
use Rattle.events.proofs.Names.{write_of, tile_write, map_write, IsReady, IsTidy, KeeperSound}
use Rattle.events.proofs.Names.{ReaderSound}
use Rattle.std.proofs.lemmas.Nat.{mod_low, shr_high}
use Rattle.events.specs.Words.{slot_told}
use Rattle.events.specs.Sound.{KeepsHeld, HoldsAnnounced}
use Rattle.events.proofs.accounts.FreedLemmas.{scanned_choice}
use Rattle.events.proofs.invariants.TidyLog.{IsTidy-legal}
use Rattle.events.proofs.accounts.SpareLemmas.{slot-within}
use Rattle.events.proofs.logs.LogLemmas.{newest-beginning, beginning_itself, places-legal}
use Rattle.events.proofs.shared_words.PlaceLemmas.{pin-now, map-pin, tile-pin, pin-pin, pin-within}

-- what follows of what an option has holds of it
IfSome-each : {A : Type 0} (o : Option A) (P Q : A → Type 0) → ((x : A) → P x → Q x) → IfSome o P
    → IfSome o Q
IfSome-each o P Q each h = search rules

-- ---- the keeper's part, where no word of it changes

-- the words agree on all that the keeper's part reads
pub record IsSameForKeeper (k : Base) (old new : List ℕ) : Type 0 where
  pub long : length new ≡ length old
  pub now : get_or new now_at 0 ≡ get_or old now_at 0
  pub map : (slot p : ℕ) → get_or new (map_at k slot p) 0 ≡ get_or old (map_at k slot p) 0
  pub tile : (b i : ℕ) → get_or new (tile_at k b i) 0 ≡ get_or old (tile_at k b i) 0

-- a word that a publish stores reads as before
same_write : (k : Base) (s : Story) (m : Blocks) (old new : List ℕ) → IsSameForKeeper k old new
    → (n : ℕ)
    → get_or new (write_of k s m n).at 0 ≡ get_or old (write_of k s m n).at 0
unfolding tile_write map_write
same_write k s m old new same n = search (rules, nat_tests)

-- words that agree on what the keeper's part reads keep it
pub KeeperSound-frame : (k : Base) (s : Story) (m : Blocks) (old new : List ℕ) (keeper : Keeper)
    → IsSameForKeeper k old new
    → KeeperSound k s m old keeper → KeeperSound k s m new keeper
KeeperSound-frame k s m old new keeper same sound = search (rules, IfSome-each, same_write)

-- a reader's word is none that the keeper's part reads
pub same_after_pin : (k : Base) (words : List ℕ) (r word : ℕ) → r < k.setting.sessions
    → IsSameForKeeper k words (set words (pin_at r) word)
same_after_pin k words r word inside =
    search (rules, length-set, get_or-set_other, pin-now, map-pin, tile-pin)

-- ---- a reader's part

-- a reader whose word is as before keeps what holds of it
pub other_reader : (k : Base) (s : Story) (old new : List ℕ) (keeper : Keeper) (r : ℕ) (x : Reader)
    → get_or new (pin_at r) 0 ≡ get_or old (pin_at r) 0 → ReaderSound k s old keeper r x
    → ReaderSound k s new keeper r x
other_reader k s old new keeper r x same sound = search rules

-- a reader's word is as before where another reader has stored its own
pub other_pin : (words : List ℕ) (r q word : ℕ) → q ≢ r
    → get_or (set words (pin_at r) word) (pin_at q) 0 ≡ get_or words (pin_at q) 0
other_pin words r q word apart = search (rules, get_or-set_other, pin-pin)

-- a reader that has announced nothing holds nothing
holds_nothing : (k : Base) (s : Story) (words : List ℕ) (keeper : Keeper) (r : ℕ) (x : Reader)
    → ReaderSound k s words keeper r x
    → x.announced ≡ None → (v : ℕ) → x.holds ≡ Some v → ⊥
holds_nothing k s words keeper r x sound none v is = let asked = (sound.holds v is).asked in
    let nothing : false ≡ true = sym (ap (λ (o : Option Seen). asks o v) none) ∙ asked in
    absurd (cc)

-- the announcement of the newest version that a reader has seen keeps what holds of it
pub ReaderSound-announce : (k : Base) (log : List Entry) (words : List ℕ) (hand : Option Hand)
    (r : ℕ) (x : Reader)
    → length words ≡ word_count k → r < k.setting.sessions
    → ReaderSound k (story k log) words record { log = log; hand = hand } r x → x.announced ≡ None
    → ReaderSound k (story k log) (set words (pin_at r) (pin_word (Some (From (newest_seen k x)))))
    record { log = log; hand = hand } r record x { announced = Some (From (newest_seen k x)) }
ReaderSound-announce k log words hand r x sized inside sound none = record {
  seen = sound.seen;
  word = search (rules, get_or-set_same, pin-within);
  announced = λ a is. search (rules, newest-beginning);
  exact = λ v is. absurd (cc);
  holds = λ v is. absurd (holds_nothing k (story k log) words record { log = log; hand = hand } r x
      sound none v is);
  passed = search (rules, IfSome-each);
}
  where
    one_first : (n a : ℕ) → ◌≡◌ {A = Option Seen} (Some (From n)) (Some (From a)) → n ≡ a
    one_first n a is = cc

-- a leave keeps what holds of a reader
pub ReaderSound-leave : (k : Base) (s : Story) (words : List ℕ) (keeper : Keeper) (r : ℕ)
    (x : Reader) → length words ≡ word_count k → r < k.setting.sessions
    → ReaderSound k s words keeper r x
    → ReaderSound k s (set words (pin_at r) (pin_word None)) keeper r
    record x { announced = None; holds = None }
ReaderSound-leave k s words keeper r x sized inside sound =
    search (rules, get_or-set_same, pin-within, IfSome-each)

-- NOW tells this of a log
pub record IsToldBy (s : Story) (word : ℕ) : Type 0 where
  pub place : place_told word ≡ s.places
  pub version : version_told word ≡ newest s
  pub slot : slot_told word ≡ get_or s.slots (newest s) 0

-- a word of three parts says each of them
parts_told : (p v i : ℕ) → v < 2 ^ 29 → i < 64 → (place_told (now_word p v i) ≡ p)
    × (version_told (now_word p v i) ≡ v) × (slot_told (now_word p v i) ≡ i)
parts_told p v i few small = search (rules, mod_low, shr_high)

-- NOW tells the place of the last entry, the newest version, and its slot
pub now_tells : (k : Base) (log : List Entry) → IsReady k → IsLegal k.setting k.opening log
    → IsToldBy (story k log) (now_of (story k log))
unfolding now_of slot_of
now_tells k log ready legal =
    let counts = places-legal k log legal in
    let fits = counts.0 in
    let few = counts.1 in
    let most = ready.log in
    let slots = (IsTidy-legal k log ready legal).slots in
    let within = slot-within k (story k log) slots (newest (story k log)) slots.newest_in in
    let few_slots = ready.few_versions in
    let parts = parts_told (story k log).places (newest (story k log))
    (get_or (story k log).slots (newest (story k log)) 0) (omega arith) (omega arith) in
    record { place = parts.0; version = parts.1; slot = parts.2 }

-- NOW tells the newest version of a legal log
pub version_of_now : (k : Base) (log : List Entry) → IsReady k → IsLegal k.setting k.opening log
    → version_told (now_of (story k log)) ≡ newest (story k log)
version_of_now k log ready legal = (now_tells k log ready legal).version

-- a version that is held after a load was held before, or is the loaded one, where something is
-- announced and nothing is held
pub next_hold_cases : (x : Reader) (n v : ℕ) → next_hold x n ≡ Some v → (x.holds ≡ Some v)
    ⊎ ((n ≡ v) × (is_some x.announced ≡ true) × (x.holds ≡ None))
next_hold_cases x n v is = search rules

-- what is announced is exact, or it isn't
announced_cases : (o : Option Seen) → is_some o ≡ true → ((a : ℕ) × (o ≡ Some (From a)))
    ⊎ ((v : ℕ) × (o ≡ Some (Exact v)))
announced_cases None is = absurd (cc)
announced_cases (Some (From a)) is = inl (a, refl)
announced_cases (Some (Exact v)) is = inr (v, refl)

-- a version from an announcement on is asked for
asked_from : (o : Option Seen) (a v : ℕ) → o ≡ Some (From a) → a ≤ v → asks o v ≡ true
asked_from o a v is low = search rules

-- what a load takes is asked for
asked_newest : (k : Base) (s : Story) (words : List ℕ) (keeper : Keeper) (r : ℕ) (x : Reader)
    → ReaderSound k s words keeper r x → is_some x.announced ≡ true → x.holds ≡ None
    → asks x.announced (newest s) ≡ true
asked_newest k s words keeper r x sound some none = search (rules, announced_cases, asked_from)

-- a load keeps what holds of a reader
pub ReaderSound-load : (k : Base) (log : List Entry) (m : Blocks) (words : List ℕ)
    (hand : Option Hand) (r : ℕ) (x : Reader)
    → IsTidy k (story k log) m
    → ReaderSound k (story k log) words record { log = log; hand = hand } r x
    → ReaderSound k (story k log) words record { log = log; hand = hand } r
    record x { seen = log; holds = next_hold x (newest (story k log)) }
ReaderSound-load k log m words hand r x tidy sound =
    let s = story k log in
    record {
      seen = beginning_itself log;
      word = sound.word;
      announced = sound.announced;
      exact = λ v is. held_still x (newest s) v (sound.exact v is);
      holds = λ v is.
          elim (next_hold_cases x (newest s) v is) [
            | inl held ↦ let h = sound.holds v held in record { kept = h.kept; asked = h.asked }
            | inr new ↦ let t = taken k s words record { log = log; hand = hand } r x m tidy sound v
                new.0 new.1 new.2 in record { kept = t.kept; asked = t.asked }
          ];
      passed = IfSome-each hand (KeepsHeld s r x)
          (KeepsHeld s r record x { seen = log; holds = next_hold x (newest s) })
          (λ h keeps collect before v is.
          elim (next_hold_cases x (newest s) v is) [
            | inl held ↦ keeps collect before v held
            | inr new ↦ subst (λ (n : ℕ). IsIn (kept_scanned s h.scanned) n) new.0
                (scanned_choice k s m tidy h.scanned).newest_in
          ]) sound.passed;
    }
  where
    held_still : (x : Reader) (n v : ℕ) → x.holds ≡ Some v → next_hold x n ≡ Some v
    held_still x n v is = by_fields x.announced x.holds n v is
      where
        by_fields : (announced : Option Seen) (holds : Option ℕ) (n v : ℕ) → holds ≡ Some v
            → (if is_some announced && is_none holds then Some n else holds) ≡ Some v
        by_fields None holds n v is = is
        by_fields (Some a) None n v is = absurd (cc)
        by_fields (Some a) (Some b) n v is = is

    taken : (k : Base) (s : Story) (words : List ℕ) (keeper : Keeper) (r : ℕ) (x : Reader)
        (m : Blocks) → IsTidy k s m → ReaderSound k s words keeper r x → (v : ℕ) → newest s ≡ v
        → is_some x.announced ≡ true → x.holds ≡ None
        → HoldsAnnounced s record x { holds = Some v } v
    taken k s words keeper r x m tidy sound v same some none = record {
      kept = subst (λ (n : ℕ). IsKept s n) same tidy.slots.newest_in;
      asked = ap (asks x.announced) (sym same) ∙ asked_newest k s words keeper r x sound some none;
    }

-- ---- an exact announcement

-- a version is asked for by its own announcement
asked_exact : (v : ℕ) → asks (Some (Exact v)) v ≡ true
asked_exact v = grind (arith, nat_tests)

-- a reader that holds a version announces it exactly
pub ReaderSound-confirm : (k : Base) (s : Story) (words : List ℕ) (keeper : Keeper) (r : ℕ)
    (x : Reader) (v : ℕ) → length words ≡ word_count k → r < k.setting.sessions
    → ReaderSound k s words keeper r x → x.holds ≡ Some v
    → ReaderSound k s (set words (pin_at r) (pin_word (Some (Exact v)))) keeper r
    record x { announced = Some (Exact v) }
ReaderSound-confirm k s words keeper r x v sized inside sound held =
    search (rules, get_or-set_same, pin-within, asked_exact, IfSome-each)
