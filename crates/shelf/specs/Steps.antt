-- What each step does to the view of its seat, and what it proves: this project's own rule.
use Rattle.std.specs.Prelude.{◌≡◌, ℕ, ◌+◌, ◌*◌, ◌<◌, ◌≤◌, List, [], ◌∷◌, ◌++◌, All, length}
use Rattle.std.specs.Prelude.{slice_index, Option, Some, None}
use mathlib.Core.List.{IsPrefix}
use mathlib.Core.Option as maybe
use Rattle.atomic_table.specs.Table.{Me, Step}
use Rattle.bits.specs.Tiles.{row_word}
use Rattle.events.specs.declared.command.Command.{Command}
use Rattle.events.specs.declared.command.Command.TheVariants.{Publish, Collect}
use Rattle.events.specs.declared.kept.Seen.TheVariants.{From, Exact}
use Rattle.events.specs.Story.{newest, bitmap_of}
use Rattle.events.specs.Legal.{IsLegal}
use Rattle.events.specs.Blocks.{directory_of, own_list}
use Rattle.events.specs.Words.{Base, tiles, map_at, tile_at, now_of, slot_of}
use Rattle.events.specs.Views.{story, blocks, newest_seen}
use Rattle.events.specs.Steps.{next_hold, steps_before, own_positions, write_of, entry_of}
use Rattle.events.specs.Safe.{times}
use Rattle.events.specs.Tidy.{IsReady}
use Rattle.shelf.specs.declared.store_entry.StoreEntry.{StoreEntry}
use Rattle.shelf.specs.declared.request.Request.{Request}
use Rattle.shelf.specs.Roles.{Task, KeeperView, ReaderView, Role, idle, keeping, reading, meeting}
use Rattle.shelf.specs.Roles.{ticket, learning, entries, made_by, unmet_by, reader_at_opening}
use Rattle.shelf.specs.Roles.{as_reader}

-- ---- what views become

-- the reader has announced the newest version that it has seen
abbrev pub announcing : Base → ReaderView → ReaderView
announcing z x = record x { announced = Some (From (newest_seen z (as_reader x))) }

-- the reader has announced this version exactly
abbrev pub confirming : ℕ → ReaderView → ReaderView
confirming version x = record x { announced = Some (Exact version) }

-- a reader has loaded NOW: it has seen this log, and holds the newest version if it had to hold one
abbrev pub loaded : Base → List StoreEntry → ReaderView → ReaderView
loaded z log x =
    record x { seen = log; holds = next_hold (as_reader x) (newest (story z (entries log))) }

-- the reader has left
abbrev pub leaving : ReaderView → ReaderView
leaving x = record x { announced = None; holds = None }

-- the keeper has taken this command
abbrev pub with_command : KeeperView → ℕ → Command → KeeperView
with_command k by command =
    record k {
      task = Some record {
        by = by;
        hand = record { command = command; done = 0; scanned = [] };
      };
    }

-- the keeper has stored one more word
abbrev pub wrote : KeeperView → Task → KeeperView
wrote k t = record k { task = Some record t { hand = record t.hand { done = t.hand.done + 1 } } }

-- the keeper has loaded one more reader's word
abbrev pub scanned : KeeperView → Task → ℕ → KeeperView
scanned k t word =
    record k {
      task = Some record t {
        hand =
            record t.hand { done = t.hand.done + 1; scanned = t.hand.scanned ++ word ∷ [] };
      };
    }

-- the slot of a log's newest version
abbrev pub newest_slot : Base → List StoreEntry → ℕ
newest_slot z log = slot_of z (story z (entries log)) (newest (story z (entries log)))

-- the entry that the current command commits, with its caller
abbrev pub signed_of : Base → KeeperView → Task → StoreEntry
signed_of z k t = record { by = t.by; entry = entry_of (story z (entries k.log)) t.hand }

-- the keeper has committed its command: it ends the log, and its reader is to meet the keeper
abbrev pub committed : Base → KeeperView → Task → KeeperView
committed z k t = record k { log = k.log ++ signed_of z k t ∷ []; task = None; unmet = Some t.by }

-- ---- what a step proves

-- a seat has a view, and no slots
abbrev Sat : Type 0
Sat = Me Request Role

-- a step says what it is asked
abbrev At : Type 0
At = Step Request

-- a reader stores what it announces
abbrev pub announces : Base → At → Sat → ℕ → Sat → Type 0
announces z st m word m' = (x : ReaderView) → m.0 ≡ reading x → m' ≡ (reading (announcing z x), m.1)

-- a reader's store of the version that it holds
abbrev pub confirms : At → Sat → ℕ → Sat → Type 0
confirms st m word m' =
    (x : ReaderView) (v : ℕ) → m.0 ≡ reading x → x.holds ≡ Some v
    → m' ≡ (reading (confirming v x), m.1)

-- a reader stores 0
abbrev pub leaves : At → Sat → ℕ → Sat → Type 0
leaves st m word m' = (x : ReaderView) → m.0 ≡ reading x → m' ≡ (reading (leaving x), m.1)

-- a reader's load shows that NOW is that of this log, which extends what the reader had seen
pub record Sees (z : Base) (x : ReaderView) (word : ℕ) (log : List StoreEntry) : Type 0 where
  pub ready : IsReady z
  pub began : IsPrefix x.seen log
  pub now : word ≡ now_of (story z (entries log))
  pub legal : IsLegal z.setting z.opening (entries log)
  pub counts : x.made ≤ made_by x.number log

-- a reader loads NOW
abbrev pub taken : Base → At → Sat → ℕ → Sat → Type 0
taken z st m word m' = (x : ReaderView) → m.0 ≡ reading x → (log : List StoreEntry)
    × (m' ≡ (reading (loaded z log x), m.1)) × Sees z x word log

-- the version that a reader holds has this block at a position
pub record HasBlock (z : Base) (x : ReaderView) (block : ℕ) : Type 0 where
  pub version : ℕ
  pub position : ℕ
  pub held : x.holds ≡ Some version
  pub inside : position < tiles z
  pub block_is : block ≡ slice_index (directory_of (blocks z (entries x.seen)) version) position

-- a reader's load of a word of its held version proves what it shows: a directory's block, or a row
abbrev pub looks : Base → At → Sat → ℕ → Sat → Type 0
looks z st m word m' =
    (m' ≡ m)
    × ((x : ReaderView) (v p : ℕ) → m.0 ≡ reading x → x.holds ≡ Some v → p < tiles z
    → st.word ≡ map_at z (slot_of z (story z (entries x.seen)) v) p
    → (word ≡ slice_index (directory_of (blocks z (entries x.seen)) v) p)
    × (word < z.setting.blocks) × IsReady z)
    × ((x : ReaderView) (v p i : ℕ) → m.0 ≡ reading x → x.holds ≡ Some v → p < tiles z → i < 64
    → st.word ≡ tile_at z (slice_index (directory_of (blocks z (entries x.seen)) v) p) i
    → word ≡ row_word (bitmap_of (story z (entries x.seen)) v) p i)

-- the keeper takes the command that it is given
abbrev pub orders : At → Sat → ℕ → Sat → Type 0
orders st m word m' = (k : KeeperView) (a : Request) → m.0 ≡ keeping k → st.said ≡ maybe.some a
    → m' ≡ (keeping (with_command k a.by a.command), m.1)

-- this word, at this index, is the next that the current command stores
pub record IsNextWrite (z : Base) (k : KeeperView) (at word : ℕ) : Type 0 where
  pub task : Task
  pub in_hand : k.task ≡ Some task
  pub publish : task.hand.command ≡ Publish
  pub more : task.hand.done < steps_before z (blocks z (entries k.log)) Publish
  pub at_is : at ≡ (write_of z (story z (entries k.log))
      (blocks z (entries k.log)) task.hand.done).at
  pub word_is : word ≡ (write_of z (story z (entries k.log))
      (blocks z (entries k.log)) task.hand.done).word

-- this reader's word is the next that the current command loads
pub record IsNextScan (z : Base) (k : KeeperView) (reader : ℕ) : Type 0 where
  pub task : Task
  pub in_hand : k.task ≡ Some task
  pub collect : task.hand.command ≡ Collect
  pub reader_is : reader ≡ task.hand.done
  pub inside : reader < z.setting.sessions

-- the keeper stores a word of a publish
abbrev pub writes : At → Sat → ℕ → Sat → Type 0
writes st m word m' = (k : KeeperView) (t : Task) → m.0 ≡ keeping k → k.task ≡ Some t
    → m' ≡ (keeping (wrote k t), m.1)

-- the keeper loads a reader's word, and what it announces is a version that exists
abbrev pub scans : Base → At → Sat → ℕ → Sat → Type 0
scans z st m word m' = (k : KeeperView) (t : Task) → m.0 ≡ keeping k → k.task ≡ Some t
    → (m' ≡ (keeping (scanned k t word), m.1)) × (word ≤ 2 * newest (story z (entries k.log)) + 2)

-- the keeper may commit: only this step is left, a reader asked for it, and each commit was met
pub record MayCommit (z : Base) (k : KeeperView) : Type 0 where
  pub task : Task
  pub in_hand : k.task ≡ Some task
  pub all_done : task.hand.done ≡ steps_before z (blocks z (entries k.log)) task.hand.command
  pub caller : task.by < k.dealt
  pub met : k.unmet ≡ None

-- the keeper stores NOW
abbrev pub commits : Base → At → Sat → ℕ → Sat → Type 0
commits z st m word m' = (k : KeeperView) (t : Task) → m.0 ≡ keeping k → k.task ≡ Some t
    → (m' ≡ (keeping (committed z k t), m.1))
    × IsLegal z.setting z.opening (entries (committed z k t).log)

-- ---- meetings, tickets, and the end

-- the reader of the last commit has met the keeper
abbrev pub met : KeeperView → KeeperView
met k = record k { unmet = None }

-- the reader has met the keeper: it has loaded NOW, and counts the entry committed since
abbrev pub met_by : Base → KeeperView → ReaderView → ReaderView
met_by z k x = record (loaded z k.log x) { made = x.made + unmet_by x.number k.unmet }

-- the keeper has dealt one more reader
abbrev pub dealt_one : KeeperView → KeeperView
dealt_one k = record k { dealt = k.dealt + 1 }

-- the keeper has given up one more reader
abbrev pub without : KeeperView → ReaderView → KeeperView
without k x = record k { gone = x.number ∷ k.gone }

-- a load proves that a reader in the keeper's seat had seen a prefix of the log, and its count
pub record Meets (z : Base) (k : KeeperView) (x : ReaderView) : Type 0 where
  -- the reader was dealt, and hasn't been given up
  pub dealt : x.number < k.dealt
  pub here : times x.number k.gone ≡ 0
  pub began : IsPrefix x.seen k.log
  pub counted : made_by x.number k.log ≡ x.made + unmet_by x.number k.unmet
  pub legal : IsLegal z.setting z.opening (entries k.log)

-- the load of a meeting, after which the reader has met the keeper
abbrev pub meets : Base → At → Sat → ℕ → Sat → Type 0
meets z st m word m' = (k : KeeperView) (x : ReaderView) → m.0 ≡ meeting k x
    → (m' ≡ (meeting (met k) (met_by z k x), m.1)) × Meets z k x

-- the load after which a reader is given up
abbrev pub gives_up : Base → At → Sat → ℕ → Sat → Type 0
gives_up z st m word m' =
    (k : KeeperView) (x : ReaderView) → m.0 ≡ meeting k x → (m' ≡ (keeping (without k x), m.1))
    × Meets z k x

-- a reader with a ticket's view loads NOW, and has then seen all that it and the ticket had seen
abbrev pub learns : Base → At → Sat → ℕ → Sat → Type 0
learns z st m word m' = (x : ReaderView) (seen : List StoreEntry) → m.0 ≡ learning x seen
    → (log : List StoreEntry) × (m' ≡ (reading (loaded z log x), m.1)) × Sees z x word log
    × IsPrefix seen log

-- the keeper's current command is a collect, whose scan has seen these words
abbrev pub scanning : KeeperView → ℕ → List ℕ → KeeperView
scanning k by words =
    record k {
      task = Some record {
        by = by;
        hand = record { command = Collect; done = length words; scanned = words };
      };
    }

-- the keeper's current command is a publish, with this many words stored
abbrev pub writing : KeeperView → ℕ → ℕ → KeeperView
writing k by n =
    record k {
      task = Some record {
        by = by;
        hand = record { command = Publish; done = n; scanned = [] };
      };
    }

-- how many own blocks a position has: one or none
abbrev pub one_own : Option ℕ → ℕ
one_own o = length (own_list (o ∷ []))

-- the draft's own blocks have this block at this index, at this position
pub record IsOwn (z : Base) (k : KeeperView) (j block position : ℕ) : Type 0 where
  pub inside : j < length (own_list (blocks z (entries k.log)).own)
  pub block_is : block ≡ slice_index (own_list (blocks z (entries k.log)).own) j
  pub position_is : position ≡ slice_index (own_positions 0 (blocks z (entries k.log)).own) j

-- the keeper's seat is unchanged by cutting a ticket from it
abbrev pub cutting : Role → Role
cutting role = role

-- a ticket cut from the keeper's seat has seen the keeper's log
abbrev pub cut_off : Role → Role
cut_off (keeping k) = ticket k.log
cut_off role = idle

-- a reader's seat takes a ticket's view
abbrev pub handed : Role → Role → Role
handed (reading x) (ticket seen) = learning x seen
handed role other = role

-- a reader's seat has learned a ticket by the load of this word
pub record LearnsIt (z : Base) (x : ReaderView) (seen : List StoreEntry) (word : ℕ)
    (views : List Role) : Type 0 where
  pub log : List StoreEntry
  pub views_are : views ≡ reading (loaded z log x) ∷ []
  pub sees : Sees z x word log
  pub learned : IsPrefix seen log

-- the keeper's seat takes a reader's view
abbrev pub together : Role → Role → Role
together (keeping k) (reading x) = meeting k x
together role other = role

-- the keeper keeps its part of a meeting
abbrev pub keeper_part : Role → Role
keeper_part (meeting k x) = keeping k
keeper_part role = role

-- the reader keeps its part of a meeting
abbrev pub reader_part : Role → Role
reader_part (meeting k x) = reading x
reader_part role = idle

-- the keeper's seat after it has dealt a reader
abbrev pub dealing : Role → Role
dealing (keeping k) = keeping (dealt_one k)
dealing role = role

-- the seat of the reader that is dealt
abbrev pub next_reader : Role → Role
next_reader (keeping k) = reading (reader_at_opening k.dealt)
next_reader role = idle

-- what the keeper's last load proves
pub record Ends (z : Base) (k : KeeperView) : Type 0 where
  pub legal : IsLegal z.setting z.opening (entries k.log)
  pub callers : All (λ e. e.by < k.dealt) k.log

-- the keeper does its last load
abbrev pub ends : Base → At → Sat → ℕ → Sat → Type 0
ends z st m word m' = (k : KeeperView) → m.0 ≡ keeping k → (m' ≡ m) × Ends z k
