-- What ties a seat to its store, and what it keeps besides its view: this project's own rule.
use Rattle.std.specs.Prelude.{◌≡◌, ℕ, ◌<◌, Bool, true, false, List, [], ◌∷◌, length, Some, None}
use Rattle.std.specs.Prelude.{is_some}
use Rattle.atomic_table.specs.Seated.{TableId}
use Rattle.atomic_table.specs.Table.{Me}
use Rattle.events.specs.Story.{newest}
use Rattle.events.specs.Words.{Base, IsPlan, word_count}
use Rattle.events.specs.Views.{story}
use Rattle.events.specs.Legal.{IsLegal, refused}
use Rattle.events.specs.Tidy.{IsReady}
use Rattle.shelf.specs.declared.store_entry.StoreEntry.{StoreEntry}
use Rattle.events.specs.declared.command.Command.{Command}
use Rattle.events.specs.declared.command.Command.TheVariants.{Publish}
use Rattle.shelf.specs.Store.{StoreId, readers_of}
use Rattle.shelf.specs.declared.request.Request.{Request}
use Rattle.shelf.specs.declared.word_table.Basis.{Basis}
use Rattle.events.specs.declared.plan.Plan.{Plan}
use Rattle.shelf.specs.Roles.{Task, KeeperView, ReaderView, Role, keeping, reading, ticket, entries}
use Rattle.shelf.specs.Roles.{keeper_in, reader_in, reader_at_opening, resting}
use Rattle.shelf.specs.Close.{IsClosing}
use Rattle.shelf.specs.Steps.{newest_slot}

-- whether a command is a publish
abbrev pub is_publish : Command → Bool
is_publish Publish = true
is_publish command = false

-- the view of the reader on a seat without slots, if it has one
abbrev pub reader_on : List Role → ReaderView
reader_on [] = reader_at_opening 0
reader_on (role ∷ roles) = reader_in role

-- what a table was made from
abbrev pub base_of : Basis → Base
base_of basis = record { setting = basis.setting; opening = basis.opening.value }

-- a table made from this is the store's, and a seat at it has its sizes
pub record IsOf (store : StoreId) (table : TableId) (basis : Basis) (seat : TableId) (plan : Plan) :
    Type 0 where
  pub table_is : table ≡ store.table
  pub basis_is : base_of basis ≡ store.base
  pub seat_is : seat ≡ store.table
  pub sized : store.table.words ≡ word_count store.base
  pub ready : IsReady store.base
  pub plan_is : IsPlan store.base plan

-- what a reader's seat keeps besides its view agrees with the view
pub record ReaderSays (k : Base) (x : ReaderView) (number made version : ℕ) : Type 0 where
  pub below : x.number < k.setting.sessions
  pub number_is : number ≡ x.number
  pub made_is : made ≡ x.made
  pub version_is : version ≡ newest (story k (entries x.seen))

-- this is a reader's seat in a store
abbrev pub IsReaderSeat : StoreId → TableId → Basis → TableId → Plan → List Role → ℕ → ℕ → ℕ
    → Type 0
IsReaderSeat store table basis seat plan views number made version =
    IsOf store table basis seat plan × (views ≡ reading (reader_on views) ∷ [])
    × ReaderSays store.base (reader_on views) number made version

-- what the keeper's seat keeps besides its view agrees with it, and its command was accepted
pub record KeeperSays (z : Base) (k : KeeperView) (place version slot : ℕ)
    (publishes unmet : Bool) : Type 0 where
  pub legal : IsLegal z.setting z.opening (entries k.log)
  pub place_is : place ≡ length k.log
  pub version_is : version ≡ newest (story z (entries k.log))
  pub slot_is : slot ≡ newest_slot z k.log
  pub publishes_is : (t : Task) → k.task ≡ Some t → publishes ≡ is_publish t.hand.command
  pub accepted : (t : Task) → k.task ≡ Some t
      → refused z.setting (story z (entries k.log)) t.hand.command ≡ None
  pub unmet_is : unmet ≡ is_some k.unmet

-- this is the keeper's seat in a store
abbrev pub IsKeeperSeat : StoreId → TableId → Basis → TableId → Plan → Me Request Role → ℕ → ℕ → ℕ
    → Bool → Bool → Type 0
IsKeeperSeat store table basis seat plan me place version slot publishes unmet =
    IsOf store table basis seat plan × (me ≡ (keeping (keeper_in me.0), []))
    × KeeperSays store.base (keeper_in me.0) place version slot publishes unmet

-- what a ticket's seat has seen
abbrev pub ticket_on : List Role → List StoreEntry
ticket_on (ticket seen ∷ roles) = seen
ticket_on roles = []

-- two seats are at this table
abbrev pub AreAt : TableId → TableId → TableId → Type 0
AreAt table keeper reader = (keeper ≡ table) × (reader ≡ table) × (0 < table.words)

-- two seats without slots are the keeper's and a reader's
abbrev pub AreKeeperAndReader : Me Request Role → List Role → Type 0
AreKeeperAndReader keeper reader =
    (keeper ≡ (keeping (keeper_in keeper.0), [])) × (reader ≡ reading (reader_on reader) ∷ [])

-- the store of the table with this id, made from this
abbrev pub store_at : TableId → Basis → StoreId
store_at table basis = record { table = table; base = base_of basis }

-- the keeper's seat in a store that is closed
abbrev pub IsClosingSeat : StoreId → TableId → Basis → TableId → Plan → Me Request Role → Type 0
IsClosingSeat store table basis seat plan me =
    IsOf store table basis seat plan × (me ≡ (keeping (keeper_in me.0), []))
    × IsClosing (keeper_in me.0) × ((keeper_in me.0).dealt ≡ readers_of store)

-- the keeper's seat at an opening is at this table, and idle with all readers dealt
abbrev pub IsFreshKeeper : TableId → Basis → TableId → Plan → Me Request Role → Type 0
IsFreshKeeper table basis seat plan me =
    IsOf (store_at seat basis) table basis seat plan
    × (me ≡ (keeping (resting (readers_of (store_at seat basis)) []), []))

-- a reader's seat at an opening is at this table, and has seen nothing
abbrev pub IsFreshReader : TableId → Basis → TableId → Plan → List Role → ℕ → Type 0
IsFreshReader table basis seat plan views number =
    IsOf (store_at seat basis) table basis seat plan
    × (views ≡ reading (reader_at_opening number) ∷ [])
    × (number < readers_of (store_at seat basis))
