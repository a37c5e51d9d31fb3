-- How a command that has been judged is carried out: this project's own rule.
use Rattle.std.specs.Prelude.{◌≡◌, ℕ, List, [], ◌∷◌, ◌++◌, Option, Some, None}
use Rattle.events.specs.declared.command.Command.{Command}
use Rattle.events.specs.declared.command.Command.TheVariants.{Collect}
use Rattle.events.specs.declared.command.Reply.{Reply}
use Rattle.events.specs.declared.kept.Seen.{Seen}
use Rattle.events.specs.Kept.{kept_after}
use Rattle.events.specs.Steps.{reply_of, steps_before}
use Rattle.events.specs.Views.{story, blocks}
use Rattle.shelf.specs.declared.store_entry.StoreEntry.{StoreEntry}
use Rattle.shelf.specs.Store.{StoreId, readers_of}
use Rattle.shelf.specs.Roles.{Task, KeeperView, entries, resting}
use Rattle.desk.specs.declared.holding.Holding.{Holding}
use Rattle.desk.specs.Holdings.{IsToldByLog, Does}

-- a command can be carried out: the keeper is idle at a log that gives what is held
pub record CanCarry (store : StoreId) (k : KeeperView) (h : Holding) : Type 0 where
  pub keeper_is : k ≡ resting (readers_of store) k.log
  pub told : IsToldByLog store.base (entries k.log) h

-- a task: a command with this many steps done, whose scan saw these words
abbrev pub task_of : ℕ → Command → ℕ → List ℕ → Task
task_of by c done words =
    record { by = by; hand = record { command = c; done = done; scanned = words } }

-- the keeper with this task
abbrev pub with_task : KeeperView → Task → KeeperView
with_task k t = record k { task = Some t }

-- a command is current, with no step done; but for it the keeper is idle at a log as above
pub record IsInHand (store : StoreId) (k : KeeperView) (h : Holding) (by : ℕ) (c : Command) :
    Type 0 where
  pub keeper_is : k ≡ with_task (resting (readers_of store) k.log) (task_of by c 0 [])
  pub told : IsToldByLog store.base (entries k.log) h

-- only a command's last step is left, and what is held is as after its answer, the reply it commits
pub record IsWorked (store : StoreId) (k : KeeperView) (h : Holding) (by : ℕ) (c : Command)
    (reply : Reply) (after : KeeperView) (new : Holding) : Type 0 where
  pub done : ℕ
  pub words : List ℕ
  pub keeper_is : after ≡ with_task k (task_of by c done words)
  pub all_done : done ≡ steps_before store.base (blocks store.base (entries k.log)) c
  pub reply_is : reply ≡ reply_of (story store.base (entries k.log)) c words
  pub does : Does h c reply new

-- the entry of a command with its caller
abbrev pub signed : ℕ → Command → Reply → StoreEntry
signed by c reply = record { by = by; entry = record { command = c; reply = reply } }

-- a collect keeps what its scan saw asked for, among the versions that were kept
abbrev pub KeepsScanned : Holding → Command → Holding → List (Option Seen) → Type 0
KeepsScanned old c new scanned =
    c ≡ Collect → new.ledger.kept ≡ kept_after old.ledger.kept old.ledger.newest scanned

-- a command is carried out: what is held is as after it, and its caller is to meet the keeper
pub record IsCarried (k : KeeperView) (h : Holding) (by : ℕ) (c : Command) (reply : Reply)
    (after : KeeperView) (new : Holding) : Type 0 where
  pub keeper_is : after ≡ record k {
    log = k.log ++ signed by c reply ∷ [];
    task = None;
    unmet = Some by;
  }
  pub does : Does h c reply new
