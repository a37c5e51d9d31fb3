-- What the seats at a store's table know: this project's own rule.
use Rattle.std.specs.Prelude.{ℕ, cond, ◌==◌, List, [], map, Option, Some, None, option_map}
use Rattle.events.specs.declared.command.Entry.{Entry}
use Rattle.events.specs.declared.kept.Seen.{Seen}
use Rattle.events.specs.Words.{Base}
use Rattle.events.specs.Views.{Hand, Keeper, Reader}
use Rattle.events.specs.Views as core
use Rattle.events.specs.Safe.{times}
use Rattle.shelf.specs.declared.store_entry.StoreEntry.{StoreEntry}

-- a task is the core's current command, with its caller
pub record Task : Type 0 where
  pub by : ℕ
  pub hand : Hand

-- what the keeper's seat knows
pub record KeeperView : Type 0 where
  -- the log
  pub log : List StoreEntry
  -- the current command, its steps done, and what its scan has seen
  pub task : Option Task
  -- the reader of the last commit, until it has met the keeper
  pub unmet : Option ℕ
  -- readers are dealt by number, and those below this one are dealt
  pub dealt : ℕ
  -- the readers that were given up, the last one first
  pub gone : List ℕ

-- what a reader's seat knows
pub record ReaderView : Type 0 where
  pub number : ℕ
  -- a prefix of the log
  pub seen : List StoreEntry
  -- how many entries of the log are this reader's, as far as it has met the keeper
  pub made : ℕ
  -- what it has announced, and the version that it holds
  pub announced : Option Seen
  pub holds : Option ℕ

-- what a seat is for
pub data Role : Type 0 where
  idle : Role
  keeping : KeeperView → Role
  reading : ReaderView → Role
  -- the keeper's seat while it has a reader's view
  meeting : KeeperView → ReaderView → Role
  -- a ticket: what the keeper's log was
  ticket : List StoreEntry → Role
  -- a reader's seat while it has a ticket's view
  learning : ReaderView → List StoreEntry → Role

-- the entries of a log, without their callers
abbrev pub entries : List StoreEntry → List Entry
entries log = map (λ e. e.entry) log

-- how many entries of a log are this reader's
abbrev pub made_by : ℕ → List StoreEntry → ℕ
made_by reader log = times reader (map (λ e. e.by) log)

-- how many of its entries a reader hasn't counted yet: that committed since it last met the keeper
abbrev pub unmet_by : ℕ → Option ℕ → ℕ
unmet_by reader None = 0
unmet_by reader (Some other) = cond (reader == other) 1 0

-- the keeper of the core: the keeper's view without callers
abbrev pub as_keeper : KeeperView → Keeper
as_keeper k = record { log = entries k.log; hand = option_map (λ t. t.hand) k.task }

-- the reader of the core: the reader's view without callers
abbrev pub as_reader : ReaderView → Reader
as_reader x = record { seen = entries x.seen; announced = x.announced; holds = x.holds }

-- the state of the core with these words, the keeper's view without callers, and these readers
abbrev pub core_of : Base → List ℕ → KeeperView → List Reader → core.State
core_of z words k readers =
    record { base = z; words = words; keeper = as_keeper k; readers = readers }

-- the idle keeper: this many readers dealt, no command, each commit met, and no reader given up
abbrev pub resting : ℕ → List StoreEntry → KeeperView
resting dealt log = record { log = log; task = None; unmet = None; dealt = dealt; gone = [] }

-- a reader at the opening has seen the empty log
abbrev pub reader_at_opening : ℕ → ReaderView
reader_at_opening number =
    record { number = number; seen = []; made = 0; announced = None; holds = None }

-- the keeper in a seat of the keeper; for a seat of another role an idle one
abbrev pub keeper_in : Role → KeeperView
keeper_in (keeping k) = k
keeper_in (meeting k x) = k
keeper_in role = resting 0 []

-- the reader in a seat of a reader
abbrev pub reader_in : Role → ReaderView
reader_in (reading x) = x
reader_in (meeting k x) = x
reader_in (learning x seen) = x
reader_in role = reader_at_opening 0
