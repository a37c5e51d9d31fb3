-- What a caller does with its session and its pin: this project's own rule.
use Rattle.std.specs.Prelude.{◌≡◌, ℕ, true, ◌+◌, ◌⊎◌, List, [], ◌∷◌, ◌++◌, Option, Some, None}
use Rattle.std.specs.Prelude.{Result, Ok, Err}
use mathlib.Core.List.{IsPrefix}
use Rattle.bits.specs.Cells.{Cells}
use Rattle.metric.specs.declared.refusal.Refusal.{Refusal}
use Rattle.metric.specs.declared.refusal.Refusal.TheVariants.{Memory, AlreadyPinned, NotPinned}
use Rattle.events.specs.declared.command.Command.{Command}
use Rattle.events.specs.declared.command.Reply.{Reply}
use Rattle.events.specs.Story.{newest, bitmap_of, no_bitmap}
use Rattle.events.specs.Ledger.{takes_room}
use Rattle.events.specs.Legal.{refused, IsAnswer, IsLegal}
use Rattle.shelf.specs.declared.store_entry.StoreEntry.{StoreEntry}
use Rattle.shelf.specs.Store.{StoreId}
use Rattle.shelf.specs.Roles.{ReaderView, entries}
use Rattle.desk.specs.Desks.{story_told}
use Rattle.lines.specs.declared.answer.Answer.{Answer}
use Rattle.lines.specs.declared.answer.Answer.TheVariants as answers

-- a caller has its session's seat, as it is after unpinning, and the version that it has pinned
pub record CallerValue : Type 0 where
  pub seat : ReaderView
  pub pin : Option ℕ

-- a free caller has no pin
abbrev pub free : ReaderView → CallerValue
free seat = record { seat = seat; pin = None }

-- the bitmap of a caller's pinned version, by what it has seen; meaningless without a pin
abbrev pub bitmap_held : StoreId → CallerValue → Cells
bitmap_held store c =
    elim c.pin as (λ _. Cells) [
      | None ↦ no_bitmap
      | Some version ↦ bitmap_of (story_told store c.seat.seen) version
    ]

-- a caller has seen a legal log, which extends what it had seen; nothing else of it has changed
pub record HasSeenMore (store : StoreId) (old new : ReaderView) : Type 0 where
  pub began : IsPrefix old.seen new.seen
  pub legal : IsLegal store.base.setting store.base.opening (entries new.seen)
  pub seat_is : new ≡ record old { seen = new.seen }

-- a command is accepted: the caller has seen a legal log, extending its own, with its entry last
pub record IsCommandDone (store : StoreId) (old : ReaderView) (c : Command) (reply : Reply)
    (new : ReaderView) : Type 0 where
  pub before : List StoreEntry
  pub began : IsPrefix old.seen before
  pub answer : IsAnswer store.base.setting (story_told store before) c reply
  pub legal : IsLegal store.base.setting store.base.opening (entries new.seen)
  pub seat_is : new ≡ record old {
    seen = before
        ++ record { by = old.number; entry = record { command = c; reply = reply } } ∷ [];
    made = old.made + 1;
  }

-- a command is refused: by a legal log that the caller has seen, or else for no memory
pub record IsNotDone (store : StoreId) (old : ReaderView) (c : Command) (refusal : Refusal)
    (new : ReaderView) : Type 0 where
  pub seen : HasSeenMore store old new
  pub why : (refused store.base.setting (story_told store new.seen) c ≡ Some refusal)
      ⊎ ((refused store.base.setting (story_told store new.seen) c ≡ None) × (refusal ≡ Memory)
      × (takes_room c ≡ true))

-- the answer that reports whether a command was accepted
abbrev pub told_as : Result Reply Refusal → Answer
told_as (Ok reply) = answers.Done reply
told_as (Err refusal) = answers.Refused refusal

-- a command has this answer, and its caller has then seen this
abbrev pub IsCommandAnswer : StoreId → Command → ReaderView → Answer → ReaderView → Type 0
IsCommandAnswer store c old (answers.Done reply) new = IsCommandDone store old c reply new
IsCommandAnswer store c old (answers.Refused refusal) new = IsNotDone store old c refusal new
IsCommandAnswer store c old answer new = ⊥

-- a command is answered; the pin stays
pub record IsCommanded (store : StoreId) (c : Command) (old : CallerValue) (answer : Answer)
    (new : CallerValue) : Type 0 where
  pub answered : IsCommandAnswer store c old.seat answer new.seat
  pub pin : new.pin ≡ old.pin

-- a caller pins the newest version of what it has then seen
pub record HasPinned (store : StoreId) (old : CallerValue) (answer : Answer) (new : CallerValue) :
    Type 0 where
  pub seen : HasSeenMore store old.seat new.seat
  pub pin : new.pin ≡ Some (newest (story_told store new.seat.seen))
  pub answer_is : answer ≡ answers.Version (newest (story_told store new.seat.seen))

-- a caller is refused, and is as before
pub record IsRefusedAs (refusal : Refusal) (old : CallerValue) (answer : Answer)
    (new : CallerValue) : Type 0 where
  pub answer_is : answer ≡ answers.Refused refusal
  pub same : new ≡ old

-- PIN has this answer
abbrev pub IsPinAnswer : StoreId → CallerValue → Answer → CallerValue → Type 0
IsPinAnswer store old answer new =
    elim old.pin as (λ _. Type 0) [
      | None ↦ HasPinned store old answer new
          ⊎ IsRefusedAs Memory old answer new
      | Some version ↦ IsRefusedAs AlreadyPinned old answer new
    ]

-- a caller unpins, and is told which version it had pinned
pub record HasUnpinned (version : ℕ) (old : CallerValue) (answer : Answer) (new : CallerValue) :
    Type 0 where
  pub answer_is : answer ≡ answers.Version version
  pub new_is : new ≡ free old.seat

-- UNPIN has this answer
abbrev pub IsUnpinAnswer : CallerValue → Answer → CallerValue → Type 0
IsUnpinAnswer old answer new =
    elim old.pin as (λ _. Type 0) [
      | None ↦ IsRefusedAs NotPinned old answer new
      | Some version ↦ HasUnpinned version old answer new
    ]
