-- Closing a store, reader by reader: this project's own rule.
use Rattle.std.specs.Prelude.{◌≡◌, ℕ, ◌≤◌, List, length, sum_by, None}
use Rattle.events.specs.Safe.{times}
use Rattle.shelf.specs.declared.store_entry.StoreEntry.{StoreEntry}
use Rattle.shelf.specs.Roles.{KeeperView, made_by}

-- a store that is closed, as callers see it
pub record Closed : Type 0 where
  pub log : List StoreEntry
  -- how many readers were given up, and how many entries they have made
  pub readers : ℕ
  pub made : ℕ

-- how many readers were given up, and what they have made, by what the keeper knows
abbrev pub closed_of : KeeperView → Closed
closed_of k =
    record { log = k.log; readers = length k.gone; made = sum_by (λ n. made_by n k.log) k.gone }

-- there is no current command, each commit was met, and no reader was given up twice
pub record IsClosing (k : KeeperView) : Type 0 where
  pub task : k.task ≡ None
  pub unmet : k.unmet ≡ None
  pub once : (n : ℕ) → times n k.gone ≤ 1
  pub below : (n : ℕ) → k.dealt ≤ n → times n k.gone ≡ 0
