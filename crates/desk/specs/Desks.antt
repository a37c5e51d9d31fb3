-- What contracts see of a desk, and how it answers a command: this project's own rule.
use Rattle.std.specs.Prelude.{◌≡◌, ℕ, ◌+◌, ◌≤◌, ◌⊎◌, true, false, List, [], ◌∷◌, ◌++◌, length, drop}
use Rattle.std.specs.Prelude.{Option, Some, None, Result, Ok, Err, IfOk, IfErr, if◌then◌else◌}
use mathlib.Core.List.{IsPrefix}
use Rattle.metric.specs.declared.refusal.Refusal.{Refusal}
use Rattle.metric.specs.declared.refusal.Refusal.TheVariants.{Memory, PlacesUsed}
use Rattle.events.specs.declared.command.Command.{Command}
use Rattle.events.specs.declared.command.Command.TheVariants.{Stamp, Collect}
use Rattle.events.specs.declared.command.Reply.{Reply}
use Rattle.events.specs.declared.kept.Seen.{Seen}
use Rattle.events.specs.Kept.{members, kept_after, AreExact, announcements}
use Rattle.events.specs.Story.{Story, newest}
use Rattle.events.specs.Ledger.{takes_room}
use Rattle.events.specs.Legal.{refused, kept_told, IsAnswer, IsLegal}
use Rattle.events.specs.Views.{story}
use Rattle.shelf.specs.declared.store_entry.StoreEntry.{StoreEntry}
use Rattle.shelf.specs.Store.{StoreId, readers_of}
use Rattle.shelf.specs.Roles.{KeeperView, ReaderView, entries, resting}
use Rattle.desk.specs.declared.holding.Holding.{Holding}
use Rattle.desk.specs.Holdings.{IsToldByLog}

-- contracts see of a desk the whole log, and what the last collect's scan saw of each reader
pub record DeskView : Type 0 where
  pub log : List StoreEntry
  pub scanned : List (Option Seen)

-- the story of the map that a desk's log tells
abbrev pub story_told : StoreId → List StoreEntry → Story
story_told store log = story store.base (entries log)

-- the place of a log's last checkpoint; 0 where it has none
abbrev pub base_place : StoreId → List StoreEntry → ℕ
base_place store log = (story_told store log).base

-- the part of a log that is kept: the entries after its last checkpoint
abbrev pub kept_part : StoreId → List StoreEntry → List StoreEntry
kept_part store log = drop (base_place store log) log

-- the entries kept after another one: all of them, or none after a checkpoint
abbrev pub entries_kept_after : List StoreEntry → StoreEntry → List StoreEntry
entries_kept_after kept e = if takes_room e.entry.command then kept ++ e ∷ [] else []

-- the keeper's seat is idle at the desk's log, which gives what is held, and the log's end is kept
pub record IsDesk (store : StoreId) (d : DeskView) (keeper : KeeperView) (h : Holding)
    (kept : List StoreEntry) : Type 0 where
  pub keeper_is : keeper ≡ resting (readers_of store) d.log
  pub told : IsToldByLog store.base (entries d.log) h
  pub kept_is : kept ≡ kept_part store d.log
  pub place_each : length d.scanned ≡ readers_of store

-- no load changes the hold of a reader that has announced nothing, or holds a version
abbrev pub IsSteady : ReaderView → Type 0
IsSteady x = (x.announced ≡ None) ⊎ ((version : ℕ) × (x.holds ≡ Some version))

-- a collect keeps what its scan saw asked for; exact announcements keep at most one version more
pub record IsByScan (store : StoreId) (old : DeskView) (reply : Reply)
    (scanned : List (Option Seen)) : Type 0 where
  pub each : length scanned ≡ readers_of store
  pub kept_is : kept_told (story_told store old.log) reply
      ≡ kept_after (story_told store old.log).kept (newest (story_told store old.log)) scanned
  pub few : AreExact scanned
      → length (members (kept_told (story_told store old.log) reply).slots)
      ≤ 1 + announcements scanned

-- a command is accepted: its entry ends the log, which its seat has seen; the seat counts the entry
pub record IsAccepted (store : StoreId) (old : DeskView) (seat : ReaderView) (c : Command)
    (reply : Reply) (new : DeskView) (seat_after : ReaderView) : Type 0 where
  pub answer : IsAnswer store.base.setting (story_told store old.log) c reply
  pub log : new.log ≡ old.log ++ record {
    by = seat.number;
    entry = record { command = c; reply = reply };
  } ∷ []
  pub seat_is : seat_after ≡ record seat { seen = new.log; made = seat.made + 1 }
  -- the entry is kept after the others; a checkpoint keeps none, and sets the base place to its own
  pub kept : kept_part store new.log ≡ entries_kept_after
      (kept_part store old.log) record {
        by = seat.number;
        entry = record { command = c; reply = reply };
      }
  pub base : base_place store new.log
      ≡ (if takes_room c then base_place store old.log else length new.log)
  pub collects : c ≡ Collect → IsByScan store old reply new.scanned

-- why a command is refused: by the log, or else, unless it is a checkpoint, because memory ran out
abbrev pub IsWhy : StoreId → DeskView → Command → Refusal → Type 0
IsWhy store d c refusal =
    (refused store.base.setting (story_told store d.log) c ≡ Some refusal)
    ⊎ ((refused store.base.setting (story_told store d.log) c ≡ None) × (refusal ≡ Memory)
    × (takes_room c ≡ true))

-- a command is refused: the desk is as before, and the seat has seen the whole log
pub record IsCommandRefused (store : StoreId) (old : DeskView) (seat : ReaderView) (c : Command)
    (refusal : Refusal) (new : DeskView) (seat_after : ReaderView) : Type 0 where
  pub why : IsWhy store old c refusal
  pub same : new ≡ old
  pub seat_is : seat_after ≡ record seat { seen = old.log }

-- the outcome of a command, whatever a refusal returns with it
abbrev pub outcome_of : {Back : Type 0} → Result Reply (Back × Refusal) → Result Reply Refusal
outcome_of (Ok reply) = Ok reply
outcome_of (Err back) = Err back.1

-- a command is accepted or refused, and then the seat has seen the whole log, which is legal
pub record IsApplied (store : StoreId) (old : DeskView) (seat : ReaderView) (c : Command)
    (answer : Result Reply Refusal) (new : DeskView) (seat_after : ReaderView) : Type 0 where
  pub accepted : IfOk answer (λ reply. IsAccepted store old seat c reply new seat_after)
  pub refused : IfErr answer (λ refusal. IsCommandRefused store old seat c refusal new seat_after)
  -- a checkpoint is refused only if no place is left
  pub places : takes_room c ≡ false → IfErr answer (λ refusal. refusal ≡ PlacesUsed)
  -- nothing of the seat changes but what it has seen and what it counts
  pub stays : seat_after ≡ record seat { seen = seat_after.seen; made = seat_after.made }
  pub seen : seat_after.seen ≡ new.log
  pub began : IsPrefix seat.seen old.log
  pub grows : IsPrefix seat.seen seat_after.seen
  pub legal : IsLegal store.base.setting store.base.opening (entries new.log)

-- a command is a stamp
abbrev pub IsStamp : Command → Type 0
IsStamp (Stamp x y b) = Unit {0}
IsStamp c = ⊥
