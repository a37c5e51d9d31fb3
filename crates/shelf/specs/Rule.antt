-- What holds of a store's table between any two steps: this project's own rule.
use Rattle.std.specs.Prelude.{◌≡◌, ℕ, ◌+◌, ◌<◌, ◌≤◌, List, All, slice_get, Some, None}
use mathlib.Core.List.{IsPrefix}
use mathlib.Core.Option as maybe
use lib.ListN.{get_elem?}
use Rattle.atomic_table.specs.Table.{State}
use Rattle.events.specs.Story.{newest}
use Rattle.events.specs.Words.{Base}
use Rattle.events.specs.Views.{Reader, story}
use Rattle.events.specs.Runs.{fresh_reader}
use Rattle.events.specs.Safe.{times}
use Rattle.events.specs.Sound.{IsWhole}
use Rattle.shelf.specs.declared.request.Request.{Request}
use Rattle.shelf.specs.Roles.{KeeperView, ReaderView, Role, idle, keeping, reading, meeting, ticket}
use Rattle.shelf.specs.Roles.{learning, entries, made_by, unmet_by, as_reader, core_of}

-- this holds between the keeper, the core's readers and a reader's seat
pub record Fits (z : Base) (k : KeeperView) (readers : List Reader) (x : ReaderView) : Type 0 where
  -- the reader was dealt, and hasn't been given up
  pub dealt : x.number < k.dealt
  pub here : times x.number k.gone ≡ 0
  -- it is the core's reader of its number
  pub there : slice_get readers x.number ≡ Some (as_reader x)
  -- what it has seen is a prefix of the log, and has the version that it holds
  pub began : IsPrefix x.seen k.log
  pub held : (v : ℕ) → x.holds ≡ Some v → v ≤ newest (story z (entries x.seen))
  -- it has seen all entries that it counts; the log has one more of its own until they meet
  pub all_seen : x.made ≤ made_by x.number x.seen
  pub counted : made_by x.number k.log ≡ x.made + unmet_by x.number k.unmet

-- what a seat knows, given the keeper's view and its seat, and the seats that have the readers
module _ (z : Base) (k : KeeperView) (readers : List Reader) (keeper : ℕ) (owner : ℕ → ℕ)
    (seat : ℕ) where
  abbrev pub Knows : Role → Type 0
  Knows idle = Unit {0}
  Knows (keeping u) = (seat ≡ keeper) × (u ≡ k)
  Knows (reading x) = (owner x.number ≡ seat) × Fits z k readers x
  Knows (meeting u x) = (seat ≡ keeper) × (u ≡ k) × (owner x.number ≡ seat) × Fits z k readers x
  Knows (ticket seen) = IsPrefix seen k.log
  Knows (learning x seen) = (owner x.number ≡ seat) × Fits z k readers x × IsPrefix seen k.log

-- a seat of this role has the view of reader r
abbrev pub HasReader : ℕ → Role → Type 0
HasReader r (reading x) = x.number ≡ r
HasReader r (meeting u x) = x.number ≡ r
HasReader r (learning x seen) = x.number ≡ r
HasReader r role = ⊥

-- a seat of this role has the keeper's view
abbrev pub HasKeeper : Role → Type 0
HasKeeper (keeping k) = Unit {0}
HasKeeper (meeting k x) = Unit {0}
HasKeeper role = ⊥

-- this seat has a role of this kind
pub record IsSeated (Kind : Role → Type 0) (views : List Role) (seat : ℕ) : Type 0 where
  pub role : Role
  pub at : get_elem? views seat ≡ maybe.some role
  pub is : Kind role

-- some seat has a role of this kind
pub record IsSomeSeat (Kind : Role → Type 0) (views : List Role) : Type 0 where
  pub seat : ℕ
  pub seated : IsSeated Kind views seat

-- what the seats know agrees with one keeper's view and with the core's readers. No word is read.
pub record AreSeats (z : Base) (k : KeeperView) (readers : List Reader) (views : List Role) :
    Type 0 where
  -- the seats that have the keeper's view and the readers
  pub keeper : ℕ
  pub owner : ℕ → ℕ
  -- at most as many readers are dealt as there are sessions, and each caller is a dealt reader
  pub few : k.dealt ≤ z.setting.sessions
  pub callers : All (λ e. e.by < k.dealt) k.log
  -- a reader not dealt yet is fresh, and one given up has announced nothing
  pub fresh : (r : ℕ) → k.dealt ≤ r → r < z.setting.sessions
      → slice_get readers r ≡ Some fresh_reader
  pub left : (r : ℕ) (y : Reader) → 1 ≤ times r k.gone → slice_get readers r ≡ Some y
      → y.announced ≡ None
  -- a reader that is dealt and not given up has a seat
  pub seated : (r : ℕ) → r < k.dealt → times r k.gone ≡ 0 → IsSeated (HasReader r) views (owner r)
  -- the keeper's view has a seat
  pub kept : IsSeated HasKeeper views keeper
  -- each seat's knowledge is valid
  pub each_seat : (j : ℕ) (v : Role) → get_elem? views j ≡ maybe.some v
      → Knows z k readers keeper owner j v

-- there is a state of the core with the table's words, whose keeper and readers the seats know
pub record Agrees (z : Base) (s : State Request Role) : Type 0 where
  pub k : KeeperView
  pub readers : List Reader
  pub whole : IsWhole (core_of z s.words k readers)
  pub seats : AreSeats z k readers s.views
