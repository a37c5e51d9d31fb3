-- A world by its parts: what an event does to them, and that what is kept besides its words stays
-- right.
use Rattle.map_core.proofs.Names.{slice_get_within, length-map, rules, ◌≡◌, ℕ, suc, ◌+◌, ◌^◌, ◌<◌}
use Rattle.map_core.proofs.Names.{List, length, get_or, set, map, ap, subst, sym, ◌∙◌, arith, Some}
use Rattle.map_core.proofs.Names.{Option, None, Ok, Err, slice_get, take_all, inl, inr, Command}
use Rattle.map_core.proofs.Names.{Entry, Event, StepReply, NotEnabled, Publish, Kept, IsIn, members}
use Rattle.map_core.proofs.Names.{first_free, with_version, IsLedger, IsBalanced, HasPlace, refused}
use Rattle.map_core.proofs.Names.{Standing, Story, newest, kept, IsKept, Base, tiles, Hand}
use Rattle.map_core.proofs.Names.{word_count, pin_at, map_at, slot_of, next_slot, Reader, State}
use Rattle.map_core.proofs.Names.{story_of, blocks_of_state, Outcome, does, SafeStep, IsWhole, Room}
use Rattle.map_core.proofs.Names.{reader_of, IsStanding, IsConsistent, Summary, Ledger}
use Rattle.std.specs.Prelude.{Result, option_map}
use Rattle.std.specs.Result.{IsErr}
use Rattle.std.proofs.lemmas.Option.{slice_get-map}
use Rattle.events.specs.Ledger.{HasNowRoom}
use Rattle.events.proofs.steps.DoesLemmas.{does-keeps}
use Rattle.events.proofs.logs.KeptLemmas.{first_free-le}
use Rattle.events.proofs.shared_words.PlaceLemmas.{map-within}
use Rattle.events.proofs.accounts.SpareLemmas.{slot-within, next-within}
use Rattle.events.proofs.invariants.TidyLog.{room_for}
use Rattle.events.proofs.invariants.SafeLemmas.{IsSafe-whole}
use Rattle.map_core.proofs.SeenLemmas.{does-grows, seen_stays, sees_none}
use Rattle.events.proofs.steps.StepLemmas.{nothing_stored, slice_get-set, tidy_of}

-- what is found among the standings is what is kept of the reader
pub found_at : {xs standings : List Standing} (r : ℕ) {found o : Option Standing}
    → found ≡ slice_get xs r → xs ≡ standings → found ≡ o → slice_get standings r ≡ o
found_at {xs} {standings} r {found} {o} found_is same is = search rules

-- a reader of a world is what is kept of it, if there is one
pub reader_got : (log : List Entry) (standings : List Standing) (r : ℕ) (found : Option Standing)
    → slice_get standings r ≡ found
    → slice_get (map (reader_of log) standings) r ≡ option_map (reader_of log) found
reader_got log standings r found is = search (rules, slice_get-map)

-- an event that isn't enabled changes nothing
pub safe_refused : (w : State) (e : Event) (why : NotEnabled) → IsWhole w → does w e ≡ None
    → SafeStep w e (Err why) w
safe_refused w e why whole none = grind (arith, IsSafe-whole, nothing_stored, seen_stays, sees_none)

-- an event that fails, since it isn't enabled, changes nothing
pub safe_failed : (w : State) (e : Event) (result : Result StepReply NotEnabled) → IsWhole w
    → does w e ≡ None → IsErr result → SafeStep w e result w
safe_failed w e (Err why) whole none fails = safe_refused w e why whole none
safe_failed w e (Ok reply) whole none fails = absurd (cc)

-- an event that is enabled does what it does, safely
pub safe_done : (w : State) (e : Event) (o : Outcome) → IsWhole w → does w e ≡ Some o
    → SafeStep w e (Ok o.answer) o.state
safe_done w e o whole is =
    let keeps = does-keeps w e o whole is in
    let seen = does-grows w e o whole is in
    record {
      stored = o.stored;
      step = inl is;
      safe = IsSafe-whole o.state keeps.whole;
      spares = keeps.spares;
      grows = seen.0;
      sees = seen.1;
    }

-- what is kept stays right where the log and the current command stay and one reader's place is
-- written
pub consistent_reader : (w : State) (hand : Option Command) (steps : ℕ) (standings : List Standing)
    (u : Summary) (room : Room) (e : Event) (words : List ℕ) (readers : List Reader)
    (answer : StepReply) (stored : Option ℕ) (r : ℕ) (p : Standing)
    → IsConsistent w hand steps standings u room
    → does w e ≡ Some record {
      state = record w { words = words; readers = readers };
      answer = answer;
      stored = stored;
    }
    → IsStanding w.base w.keeper.log p
    → IsConsistent record w { words = words; readers = readers } hand steps
    (set standings r p) u room
consistent_reader w hand steps standings u room e words readers answer stored r p consistent is
    place =
    let keeps = does-keeps w e _ consistent.whole is in
    record {
      whole = keeps.whole;
      steps = consistent.steps;
      standing = λ q z there.
          elim (slice_get-set standings r p q z there) [
            | inl here ↦ subst (λ (y : Standing). IsStanding w.base w.keeper.log y) here.1 place
            | inr other ↦ consistent.standing q z other.1
          ];
      summary = consistent.summary;
      roomy = record {
        log = consistent.roomy.log;
        scanned = consistent.roomy.scanned;
        free = consistent.roomy.free;
        retired = consistent.roomy.retired;
        scratch = consistent.roomy.scratch;
      };
    }

-- a word of a directory is one of the words
pub map_in_words : (w : State) → IsWhole w → (v p place : ℕ) → IsKept (story_of w) v
    → place ≡ map_at w.base (slot_of w.base (story_of w) v) p → p < tiles w.base
    → place < length w.words
map_in_words w whole v p place is_kept is inside =
    let within = map-within w.base (slot_of w.base (story_of w) v) p
    (slot-within w.base (story_of w) (tidy_of w whole).slots v is_kept) inside in
    let sized = whole.keeper.sized in
    omega arith

-- a word of the next directory is one of the words
pub next_in_words : (w : State) → IsWhole w → refused w.base.setting (story_of w) Publish ≡ None
    → (p place : ℕ) → place ≡ map_at w.base (next_slot w.base (story_of w)) p → p < tiles w.base
    → place < length w.words
next_in_words w whole accepted p place is inside =
    let within = map-within w.base (next_slot w.base (story_of w)) p
    (next-within w.base (story_of w) (blocks_of_state w) whole.ready (tidy_of w whole) accepted)
    inside in
    let sized = whole.keeper.sized in
    omega arith

-- the slot that is found of a version is the version's
pub slot_found_is : (w : State) → IsWhole w → (l : Ledger) → IsLedger w.base (story_of w) l
    → (v slot : ℕ) → get_or l.kept.slots slot 0 ≡ v + 1 → slot ≡ slot_of w.base (story_of w) v
unfolding slot_of
slot_found_is w whole l is v slot there =
    let here : get_or (story_of w).kept.slots slot 0 ≡ suc v =
    sym (ap (λ (q : Kept). get_or q.slots slot 0) is.kept_is)
    ∙ (let up : get_or l.kept.slots slot 0 ≡ suc v = omega arith in up) in
    sym ((tidy_of w whole).slots.own slot v here)

-- a version that is kept is kept by the ledger
pub kept_in_ledger : (k : Base) (s : Story) (l : Ledger) → IsLedger k s l → (v : ℕ) → IsKept s v
    → IsIn l.kept v
unfolding IsKept
kept_in_ledger k s l is v h = search rules

-- a publish that is accepted finds a slot of 64
pub next_room : (w : State) → IsWhole w → (l : Ledger) → IsLedger w.base (story_of w) l
    → refused w.base.setting (story_of w) Publish ≡ None → length (members l.kept.slots) < 64
unfolding kept
next_room w whole l is accepted = search (rules, room_for)

-- the slot that is found for the next version is the next slot
pub next_found_is : (w : State) (l : Ledger) → IsLedger w.base (story_of w) l → (slot : ℕ)
    → slot ≡ first_free l.kept.slots → slot ≡ next_slot w.base (story_of w)
unfolding next_slot
next_found_is w l is slot found = found ∙ ap (λ (q : Kept). first_free q.slots) is.kept_is

-- what NOW says of a ledger with one more entry has room
pub now_room : (l new : Ledger) → IsBalanced l → HasPlace l
    → new ≡ record l { places = l.places + 1 } → HasNowRoom new
now_room l new balanced left is = search rules

-- what NOW says of a ledger after an entry that leaves newest and its slot has room
pub now_room_same : (l new : Ledger) → IsBalanced l → HasPlace l → new.places ≡ l.places + 1
    → new.newest ≡ l.newest → new.slot ≡ l.slot → HasNowRoom new
now_room_same l new balanced left places newest slot = search rules

-- what NOW says of a ledger after a publish has room
pub now_room_published : (l new : Ledger) → IsBalanced l → HasPlace l
    → length (members l.kept.slots) < 64
    → new ≡ record l {
      places = l.places + 1;
      newest = l.newest + 1;
      slot = first_free l.kept.slots;
      kept = with_version l.kept (l.newest + 1);
    } → HasNowRoom new
now_room_published l new balanced left room is = search (rules, first_free-le)

-- the current command was accepted
pub accepted_in : (w : State) (h : Hand) (c : Command) → IsWhole w → w.keeper.hand ≡ Some h
    → h.command ≡ c → refused w.base.setting (story_of w) c ≡ None
accepted_in w h c whole there is = search rules

module _ {w : State} {hand : Option Command} {steps : ℕ} {standings : List Standing} {u : Summary}
    {room : Room} (consistent : IsConsistent w hand steps standings u room) where
  -- a reader's word is one of the words
  pub reader_word : (log : List Entry) (r : ℕ) (p : Standing)
      → w.readers ≡ map (reader_of log) standings → slice_get standings r ≡ Some p
      → pin_at r < length w.words
  unfolding word_count pin_at
  reader_word log r p readers there =
      let within = slice_get_within standings r p there in
      let size = ap length readers ∙ length-map standings (reader_of log) in
      let sized = consistent.whole.keeper.sized in
      let count = consistent.whole.readers in
      omega arith

  -- what is kept of a reader is right after it has seen the whole log
  pub place_whole : (p : Standing) → p.seen ≡ length w.keeper.log → p.version ≡ u.ledger.newest
      → u.ledger.newest < 2 ^ 32 → IsStanding w.base w.keeper.log p
  place_whole p seen version small = search (rules, take_all)

  -- there is a word NOW
  pub now_word_there : 0 < length w.words
  unfolding word_count
  now_word_there = search rules

  -- the room of the log doesn't matter where there is no current command
  pub consistent_log_room : w.keeper.hand ≡ None → (log : ℕ)
      → IsConsistent w hand steps standings u record room { log = log }
  consistent_log_room none log = search rules
