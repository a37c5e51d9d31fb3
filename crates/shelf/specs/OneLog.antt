-- The one log of a table's words and seats: this project's own rule.
use Rattle.std.specs.Prelude.{◌≡◌, ◌≢◌, ℕ, ◌+◌, ◌^◌, ◌<◌, ◌≤◌, List, length, All, slice_index}
use Rattle.std.specs.Prelude.{Option, Some}
use mathlib.Core.List.{IsPrefix}
use mathlib.Core.Option as maybe
use lib.ListN.{get_elem?}
use Rattle.atomic_table.specs.Table.{State}
use Rattle.events.specs.Story.{newest}
use Rattle.events.specs.Legal.{IsLegal}
use Rattle.events.specs.Words.{Base, now_at, now_word}
use Rattle.events.specs.Views.{story}
use Rattle.events.specs.Safe.{IsBeginning}
use Rattle.shelf.specs.declared.store_entry.StoreEntry.{StoreEntry}
use Rattle.shelf.specs.declared.request.Request.{Request}
use Rattle.shelf.specs.Roles.{KeeperView, ReaderView, Role, keeping, reading, meeting, learning}
use Rattle.shelf.specs.Roles.{ticket, entries, made_by, unmet_by}
use Rattle.shelf.specs.Rule.{HasReader, HasKeeper, IsSomeSeat}
use Rattle.shelf.specs.Steps.{newest_slot}

-- a reader has seen a prefix of the log, and counts its own entries there except an unmet one
pub record IsBehind (log : List StoreEntry) (unmet : Option ℕ) (x : ReaderView) : Type 0 where
  pub began : IsPrefix x.seen log
  pub without_callers : IsBeginning (entries x.seen) (entries log)
  -- it counts its entries except an unmet one, and has seen those that it counts
  pub counted : made_by x.number log ≡ x.made + unmet_by x.number unmet
  pub seen : x.made ≤ made_by x.number x.seen
  -- if none of its own is unmet, all its entries are among those that it has seen
  pub whole : unmet ≢ Some x.number → (made_by x.number log ≡ x.made)
      × (made_by x.number x.seen ≡ x.made)

-- a seat of this role has the keeper's view, which knows this log and this unmet entry
abbrev pub KnowsLog : List StoreEntry → Option ℕ → Role → Type 0
KnowsLog log unmet (keeping k) = (k.log ≡ log) × (k.unmet ≡ unmet)
KnowsLog log unmet (meeting k x) = (k.log ≡ log) × (k.unmet ≡ unmet)
KnowsLog log unmet role = ⊥

-- the words and the seats of a table have one log, of which at most one entry is unmet
pub record HasOneLog (z : Base) (s : State Request Role) : Type 0 where
  pub log : List StoreEntry
  pub unmet : Option ℕ
  -- the log is legal and shorter than 2^32, and each caller is a session
  pub legal : IsLegal z.setting z.opening (entries log)
  pub short : length log < 2 ^ 32
  pub callers : All (λ e. e.by < z.setting.sessions) log
  -- NOW has its length, its newest version and that version's slot
  pub now : slice_index s.words now_at ≡ now_word (length log) (newest (story z (entries log)))
      (newest_slot z log)
  -- the keeper's view is some seat's
  pub kept : IsSomeSeat (KnowsLog log unmet) s.views
  -- the keeper's seat knows both
  pub keeper : (j : ℕ) (k : KeeperView) → get_elem? s.views j ≡ maybe.some (keeping k)
      → (k.log ≡ log) × (k.unmet ≡ unmet)
  -- each reader's seat has seen a prefix of the log and counts its entries, even in a meeting
  pub reader : (j : ℕ) (x : ReaderView) → get_elem? s.views j ≡ maybe.some (reading x)
      → IsBehind log unmet x
  -- a reader's seat has seen as much too while it has a ticket's view
  pub taught : (j : ℕ) (x : ReaderView) (seen : List StoreEntry)
      → get_elem? s.views j ≡ maybe.some (learning x seen) → IsBehind log unmet x
      × IsPrefix seen log
  pub together : (j : ℕ) (k : KeeperView) (x : ReaderView)
      → get_elem? s.views j ≡ maybe.some (meeting k x) → (k.log ≡ log) × (k.unmet ≡ unmet)
      × IsBehind log unmet x
  -- a ticket has seen a prefix of the log
  pub tickets : (j : ℕ) (seen : List StoreEntry) → get_elem? s.views j ≡ maybe.some (ticket seen)
      → IsPrefix seen log
  -- no two seats have one reader's view
  pub apart : (i j r : ℕ) (u v : Role) → get_elem? s.views i ≡ maybe.some u
      → get_elem? s.views j ≡ maybe.some v → HasReader r u → HasReader r v → i ≡ j
  -- at most one seat has the keeper's view
  pub one_keeper : (i j : ℕ) (u v : Role) → get_elem? s.views i ≡ maybe.some u
      → get_elem? s.views j ≡ maybe.some v → HasKeeper u → HasKeeper v → i ≡ j
