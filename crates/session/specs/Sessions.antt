-- What contracts see of pins and of sessions: this project's own rule.
use Rattle.std.specs.Prelude.{◌≡◌, ◌+◌, ◌≤◌, ℕ, All, List, drop, length, map, sum_by, Result, Some}
use Rattle.std.specs.Prelude.{None}
use Rattle.std.specs.List.{range_with_len}
use mathlib.Core.List.{IsPrefix}
use Rattle.bits.specs.Cells.{Cells}
use Rattle.metric.specs.declared.refusal.Refusal.{Refusal}
use Rattle.events.specs.declared.command.Command.{Command}
use Rattle.events.specs.declared.command.Reply.{Reply}
use Rattle.events.specs.declared.kept.Seen.TheVariants.{Exact}
use Rattle.events.specs.Story.{newest}
use Rattle.events.specs.Views.{story}
use Rattle.events.specs.Tidy.{IsReady}
use Rattle.shelf.specs.declared.store_entry.StoreEntry.{StoreEntry}
use Rattle.shelf.specs.Store.{StoreId, readers_of}
use Rattle.shelf.specs.Roles.{ReaderView, entries, reader_at_opening, made_by}
use Rattle.events.specs.Legal.{IsLegal}
use Rattle.copies.specs.Copies.{RoomView, IsCopying, bitmap_seen}
use Rattle.desk.specs.Desks.{DeskView, IsApplied, base_place}

-- a pin has its session's seat, and the version that it holds
pub record PinView : Type 0 where
  pub seat : ReaderView
  pub version : ℕ

-- the newest version that a session has seen
abbrev pub newest_of_session : StoreId → ReaderView → ℕ
newest_of_session store seat = newest (story store.base (entries seat.seen))

-- the bitmap published as a pin's version, by what the pin has seen
abbrev pub bitmap_pinned : StoreId → PinView → Cells
bitmap_pinned store p = bitmap_seen store p.seat p.version

-- the sessions of a store that was just opened, by number
abbrev pub all_fresh : StoreId → List ReaderView
all_fresh store = map reader_at_opening (range_with_len 0 (readers_of store))

-- a log extends what a session has seen, and has as many entries by it as it counts
abbrev pub IsInLog : List StoreEntry → ReaderView → Type 0
IsInLog log s = IsPrefix s.seen log × (made_by s.number log ≡ s.made)

-- closing a store returns the end of one log: its last checkpoint's place, and the entries after it
pub record IsHandedOut (store : StoreId) (handed : List ReaderView) (base : ℕ)
    (kept : List StoreEntry) : Type 0 where
  pub log : List StoreEntry
  pub legal : IsLegal store.base.setting store.base.opening (entries log)
  -- it extends what each session has seen, and has as many entries by it as it counts
  pub sessions : All (IsInLog log) handed
  -- if the close took all sessions, their counts add up to its length
  pub made : length handed ≡ readers_of store → sum_by (λ s. s.made) handed ≡ length log
  pub base_is : base ≡ base_place store log
  pub kept_is : kept ≡ drop base log
  pub last_is : base + length kept ≡ length log

-- a session announces and holds nothing, and knows the size of its map, which fits the setting
pub record IsSession (store : StoreId) (x : ReaderView) (room : RoomView) : Type 0 where
  pub quiet : x.announced ≡ None
  pub free : x.holds ≡ None
  pub ready : IsReady store.base
  pub width_is : room.width ≡ store.base.opening.width
  pub height_is : room.height ≡ store.base.opening.height

-- a pin holds a published version that it has seen, and has announced it exactly
pub record IsPin (store : StoreId) (p : PinView) (slot : ℕ) (bitmap : Cells) (unread : ℕ) :
    Type 0 where
  pub announced : p.seat.announced ≡ Some (Exact p.version)
  pub published : p.version ≤ newest_of_session store p.seat
  pub ready : IsReady store.base
  pub copying : IsCopying store p.seat p.version slot bitmap unread

-- a pin's command is answered as its session's, and the pin keeps its version and its bitmap
pub record IsPinApplied (store : StoreId) (old : DeskView) (p : PinView) (c : Command)
    (answer : Result Reply Refusal) (new : DeskView) (after : PinView) : Type 0 where
  pub applied : IsApplied store old p.seat c answer new after.seat
  pub version : after.version ≡ p.version
  pub bitmap : bitmap_pinned store after ≡ bitmap_pinned store p
