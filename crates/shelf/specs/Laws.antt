-- The rule of a table in the core's words: this project's own rule.
use Rattle.shelf.specs.declared.store_entry.StoreEntry.{StoreEntry}
use Rattle.events.specs.Blocks.{directory_of}
use Rattle.events.specs.Legal.{refused}
use Rattle.events.specs.declared.command.Command.{Command}
use Rattle.events.specs.declared.kept.Seen.TheVariants.{From, Exact}
use Rattle.std.specs.Prelude.{◌≡◌, ◌≢◌, ℕ, ◌<◌, true, [], ◌∷◌, ◌++◌, slice_get, slice_index}
use Rattle.std.specs.Prelude.{slice_set, Option, Some, None, is_some, ◌⊎◌, List, ◌+◌}
use mathlib.Core.Option as maybe
use lib.ListN.{get_elem?}
use Rattle.atomic_table.specs.Table.{State}
use Rattle.events.specs.declared.command.Command.TheVariants.{Collect, Publish}
use Rattle.events.specs.declared.event.Event.{Event}
use Rattle.events.specs.declared.event.Event.TheVariants.{Announce, Leave, Confirm, Keep, Load}
use Rattle.events.specs.declared.event.Event.TheVariants.{LookMap, LookTile, Order}
use Rattle.events.specs.declared.event.StepReply.{StepReply}
use Rattle.events.specs.declared.event.StepReply.TheVariants as says
use Rattle.events.specs.Words.{Base, now_at, pin_at, now_of, pin_word, tiles, map_at, tile_at}
use Rattle.events.specs.Words.{slot_of, place_told, version_told}
use Rattle.events.specs.Steps.{does, to_confirm, steps_before, write_of}
use Rattle.events.specs.Views.{Keeper, Reader, story, newest_seen, blocks}
use Rattle.events.specs.Views as core
use Rattle.events.specs.Sound.{IsWhole}
use Rattle.events.specs.Safe.{IsSafe, SparesLive, IsBeginning}
use Rattle.shelf.specs.declared.request.Request.{Request}
use Rattle.shelf.specs.Roles.{Task, KeeperView, ReaderView, Role, keeping, reading, meeting}
use Rattle.shelf.specs.Roles.{entries, as_keeper, as_reader, learning, ticket, idle, resting}
use Rattle.shelf.specs.Roles.{reader_at_opening, core_of}
use Rattle.shelf.specs.Rule.{HasReader, HasKeeper, IsSomeSeat, Agrees}
use Rattle.shelf.specs.Steps.{announcing, confirming, leaving, scanned, committed, signed_of}
use Rattle.shelf.specs.Steps.{MayCommit, loaded, with_command, wrote, met, met_by, without}

-- a seat of this role has this reader, of number r
abbrev pub ShowsReader : ℕ → Reader → Role → Type 0
ShowsReader r y (reading x) = (x.number ≡ r) × (y ≡ as_reader x)
ShowsReader r y (meeting k x) = (x.number ≡ r) × (y ≡ as_reader x)
ShowsReader r y (learning x seen) = (x.number ≡ r) × (y ≡ as_reader x)
ShowsReader r y role = ⊥

-- a seat of this role has this keeper
abbrev pub ShowsKeeper : Keeper → Role → Type 0
ShowsKeeper y (keeping k) = y ≡ as_keeper k
ShowsKeeper y (meeting k x) = y ≡ as_keeper k
ShowsKeeper y role = ⊥

-- this state of the core is whole and safe, with the table's words, and its seats' views
pub record IsStateOf (z : Base) (s : State Request Role) (w : core.State) : Type 0 where
  pub whole : IsWhole w
  pub safe : IsSafe w
  pub base_is : w.base ≡ z
  pub words_are : w.words ≡ s.words
  pub kept : IsSomeSeat (ShowsKeeper w.keeper) s.views
  pub keeper : (j : ℕ) (k : KeeperView) → get_elem? s.views j ≡ maybe.some (keeping k)
      → w.keeper ≡ as_keeper k
  pub reader : (j : ℕ) (x : ReaderView) → get_elem? s.views j ≡ maybe.some (reading x)
      → slice_get w.readers x.number ≡ Some (as_reader x)
  pub together : (j : ℕ) (k : KeeperView) (x : ReaderView)
      → get_elem? s.views j ≡ maybe.some (meeting k x) → (w.keeper ≡ as_keeper k)
      × (slice_get w.readers x.number ≡ Some (as_reader x))
  pub taught : (j : ℕ) (x : ReaderView) (seen : List StoreEntry)
      → get_elem? s.views j ≡ maybe.some (learning x seen)
      → (slice_get w.readers x.number ≡ Some (as_reader x))
      × IsBeginning (entries seen) w.keeper.log
  -- what a ticket has seen is a prefix of the log
  pub tickets : (j : ℕ) (seen : List StoreEntry) → get_elem? s.views j ≡ maybe.some (ticket seen)
      → IsBeginning (entries seen) w.keeper.log
  -- each reader is the view of a seat, or its word is 0
  pub each_reader : (r : ℕ) (y : Reader) → slice_get w.readers r ≡ Some y
      → IsSomeSeat (ShowsReader r y) s.views ⊎ (slice_index s.words (pin_at r) ≡ 0)
  -- no two seats have one reader's view, and at most one seat has the keeper's
  pub apart : (i j r : ℕ) (u v : Role) → get_elem? s.views i ≡ maybe.some u
      → get_elem? s.views j ≡ maybe.some v → HasReader r u → HasReader r v → i ≡ j
  pub one_keeper : (i j : ℕ) (u v : Role) → get_elem? s.views i ≡ maybe.some u
      → get_elem? s.views j ≡ maybe.some v → HasKeeper u → HasKeeper v → i ≡ j

-- there is a state of the core that is the table's
pub record IsAState (z : Base) (s : State Request Role) : Type 0 where
  pub w : core.State
  pub is : IsStateOf z s w

-- the table after a seat stores a word and has another view
abbrev pub after_step : State Request Role → ℕ → ℕ → ℕ → Role → State Request Role
after_step s at word id v =
    record { words = slice_set s.words at word; homes = s.homes; views = slice_set s.views id v }

-- the state of the core in a proof of the rule
abbrev pub ruled : (z : Base) (s : State Request Role) → Agrees z s → core.State
ruled z s r = core_of z s.words r.k r.readers

-- a step of the table is this event of the core, in any state that the rule has before it
pub record IsEvent (z : Base) (s : State Request Role) (r : Agrees z s) (t : State Request Role)
    (e : Event) (answer : StepReply) : Type 0 where
  pub after : Agrees z t
  pub stored : Option ℕ
  pub was : IsStateOf z s (ruled z s r)
  pub is : IsStateOf z t (ruled z t after)
  pub done : does (ruled z s r) e ≡ Some
      record { state = ruled z t after; answer = answer; stored = stored }
  pub spares : SparesLive (ruled z s r) stored

-- words and seats of a table change without an event of the core: its state is the same
pub record IsNoEvent (z : Base) (s : State Request Role) (r : Agrees z s) (t : State Request Role) :
    Type 0 where
  pub after : Agrees z t
  pub same : ruled z t after ≡ ruled z s r

-- the table with other views of its seats
abbrev pub with_views : State Request Role → List Role → State Request Role
with_views s views = record { words = s.words; homes = s.homes; views = views }

-- each step of a seat is the event of its kind
pub record StepsAreEvents (z : Base) (s : State Request Role) (r : Agrees z s) (id : ℕ) :
    Type 0 where
  pub announce : (x : ReaderView) → get_elem? s.views id ≡ maybe.some (reading x)
      → x.announced ≡ None
      → IsEvent z s r (after_step s (pin_at x.number)
      (pin_word (Some (From (newest_seen z (as_reader x))))) id (reading (announcing z x)))
      (Announce x.number) (says.Announced (newest_seen z (as_reader x)))
  -- a reader that holds a version it hasn't announced exactly
  pub confirm : (x : ReaderView) (v : ℕ) → get_elem? s.views id ≡ maybe.some (reading x)
      → to_confirm x.announced x.holds ≡ Some v
      → IsEvent z s r (after_step s (pin_at x.number) (pin_word (Some (Exact v))) id
      (reading (confirming v x))) (Confirm x.number) (says.Confirmed v)
  pub leave : (x : ReaderView) → get_elem? s.views id ≡ maybe.some (reading x)
      → is_some x.announced ≡ true
      → IsEvent z s r (after_step s (pin_at x.number) (pin_word None) id (reading (leaving x)))
      (Leave x.number) says.Left
  pub load : (x : ReaderView) → get_elem? s.views id ≡ maybe.some (reading x)
      → IsEvent z s r (after_step s now_at (slice_index s.words now_at) id
      (reading (loaded z r.k.log x))) (Load x.number)
      (says.Now (place_told (slice_index s.words now_at))
      (version_told (slice_index s.words now_at)))
  -- the loads by which a reader learns a ticket, and meets the keeper and counts its entry
  pub learn : (x : ReaderView) (seen : List StoreEntry)
      → get_elem? s.views id ≡ maybe.some (learning x seen)
      → IsEvent z s r (after_step s now_at (slice_index s.words now_at) id
      (reading (loaded z r.k.log x))) (Load x.number)
      (says.Now (place_told (slice_index s.words now_at))
      (version_told (slice_index s.words now_at)))
  pub meet : (k : KeeperView) (x : ReaderView) → get_elem? s.views id ≡ maybe.some (meeting k x)
      → (k.unmet ≡ None) ⊎ (k.unmet ≡ Some x.number)
      → IsEvent z s r (after_step s now_at (slice_index s.words now_at) id
      (meeting (met k) (met_by z k x))) (Load x.number)
      (says.Now (place_told (slice_index s.words now_at))
      (version_told (slice_index s.words now_at)))
  pub look_map : (x : ReaderView) (v p : ℕ) → get_elem? s.views id ≡ maybe.some (reading x)
      → x.holds ≡ Some v → p < tiles z
      → let at = map_at z (slot_of z (story z (entries x.seen)) v) p in
      IsEvent z s r (after_step s at (slice_index s.words at) id (reading x)) (LookMap x.number p)
      (says.Block (slice_index s.words at))
  pub look_tile : (x : ReaderView) (v p b i : ℕ) → get_elem? s.views id ≡ maybe.some (reading x)
      → x.holds ≡ Some v → p < tiles z
      → b ≡ slice_index (directory_of (blocks z (entries x.seen)) v) p → i < 64
      → IsEvent z s r (after_step s (tile_at z b i) (slice_index s.words (tile_at z b i)) id
      (reading x)) (LookTile x.number b i) (says.Word (slice_index s.words (tile_at z b i)))
  pub order : (k : KeeperView) (by : ℕ) (c : Command)
      → get_elem? s.views id ≡ maybe.some (keeping k) → k.task ≡ None
      → refused z.setting (story z (entries k.log)) c ≡ None
      → IsEvent z s r (after_step s now_at (slice_index s.words now_at) id
      (keeping (with_command k by c))) (Order c)
      (says.Ordered (steps_before z (blocks z (entries k.log)) c + 1))
  pub write : (k : KeeperView) (t : Task) → get_elem? s.views id ≡ maybe.some (keeping k)
      → k.task ≡ Some t → t.hand.command ≡ Publish
      → t.hand.done < steps_before z (blocks z (entries k.log)) Publish
      → let next = write_of z (story z (entries k.log)) (blocks z (entries k.log)) t.hand.done in
      IsEvent z s r (after_step s next.at next.word id (keeping (wrote k t))) Keep says.Written
  pub scan : (k : KeeperView) (t : Task) → get_elem? s.views id ≡ maybe.some (keeping k)
      → k.task ≡ Some t → t.hand.command ≡ Collect → t.hand.done < z.setting.sessions
      → IsEvent z s r (after_step s (pin_at t.hand.done)
      (slice_index s.words (pin_at t.hand.done)) id
      (keeping (scanned k t (slice_index s.words (pin_at t.hand.done))))) Keep
      (says.Scanned t.hand.done (slice_index s.words (pin_at t.hand.done)))
  pub commit : (k : KeeperView) (may : MayCommit z k)
      → get_elem? s.views id ≡ maybe.some (keeping k)
      → IsEvent z s r (after_step s now_at (now_of (story z (entries (committed z k may.task).log)))
      id (keeping (committed z k may.task))) Keep
      (says.Committed (signed_of z k may.task).entry.reply)

-- exchanges of views, and the last loads of a store that is closed, are no events
pub record HandingsAreNone (z : Base) (s : State Request Role) (r : Agrees z s) (id other : ℕ) :
    Type 0 where
  -- a reader's view joins the keeper's seat, and is parted from it again
  pub together : (k : KeeperView) (x : ReaderView) → get_elem? s.views id ≡ maybe.some (keeping k)
      → other ≢ id → get_elem? (slice_set s.views id (meeting k x)) other ≡ maybe.some (reading x)
      → IsNoEvent z s r (with_views s (slice_set (slice_set s.views id (meeting k x)) other idle))
  pub apart : (k : KeeperView) (x : ReaderView) → get_elem? s.views id ≡ maybe.some (meeting k x)
      → IsNoEvent z s r (with_views s (slice_set s.views id (keeping k) ++ reading x ∷ []))
  -- a ticket is cut from the keeper's seat, and joins a reader's
  pub cut : (k : KeeperView) → get_elem? s.views id ≡ maybe.some (keeping k)
      → IsNoEvent z s r (with_views s (slice_set s.views id (keeping k) ++ ticket k.log ∷ []))
  pub hand : (x : ReaderView) (seen : List StoreEntry)
      → get_elem? s.views id ≡ maybe.some (reading x) → other ≢ id
      → get_elem? (slice_set s.views id (learning x seen)) other ≡ maybe.some (ticket seen)
      → IsNoEvent z s r
      (with_views s (slice_set (slice_set s.views id (learning x seen)) other idle))
  -- the next reader is dealt
  pub deal : (n : ℕ) → n < z.setting.sessions
      → get_elem? s.views id ≡ maybe.some (keeping (resting n []))
      → IsNoEvent z s r
      (with_views s (slice_set s.views id (keeping (resting (n + 1) []))
      ++ reading (reader_at_opening n) ∷ []))
  -- a reader is given up, and the keeper's last load
  pub give_up : (k : KeeperView) (x : ReaderView) → get_elem? s.views id ≡ maybe.some (meeting k x)
      → x.announced ≡ None
      → IsNoEvent z s r (after_step s now_at (slice_index s.words now_at) id
      (keeping (without k x)))
  pub end : (k : KeeperView) → get_elem? s.views id ≡ maybe.some (keeping k)
      → IsNoEvent z s r (after_step s now_at (slice_index s.words now_at) id (keeping k))

-- a table becomes another by an event of the core, or by none, in any state the rule has before
abbrev pub Moves : (z : Base) → State Request Role → State Request Role → Type 0
Moves z s t = (r : Agrees z s) → ((e : Event) × (answer : StepReply) × IsEvent z s r t e answer)
    ⊎ IsNoEvent z s r t

-- the tables follow one another, each from the one before
abbrev pub IsSchedule : Base → State Request Role → List (State Request Role) → Type 0
IsSchedule z s [] = Unit {0}
IsSchedule z s (t ∷ ts) = Moves z s t × IsSchedule z t ts

-- the last table of a schedule, which is the first if it has no step
abbrev pub last_table : State Request Role → List (State Request Role) → State Request Role
last_table s [] = s
last_table s (t ∷ ts) = last_table t ts

-- the core does these events in order, each is enabled, and none stores in a live block
abbrev pub IsCoreRun : core.State → List Event → List StepReply → core.State → Type 0
IsCoreRun w [] [] v = v ≡ w
IsCoreRun w [] (a ∷ answers) v = ⊥
IsCoreRun w (e ∷ events) [] v = ⊥
IsCoreRun w (e ∷ events) (a ∷ answers) v =
    (mid : core.State) × (stored : Option ℕ)
    × (does w e ≡ Some record { state = mid; answer = a; stored = stored }) × SparesLive w stored
    × IsCoreRun mid events answers v

-- a schedule of the table is one run of the core
pub record IsOneRun (z : Base) (s : State Request Role) (r : Agrees z s)
    (ts : List (State Request Role)) : Type 0 where
  pub after : Agrees z (last_table s ts)
  pub events : List Event
  pub answers : List StepReply
  pub run : IsCoreRun (ruled z s r) events answers (ruled z (last_table s ts) after)
