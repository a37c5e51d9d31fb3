-- The summary of a log, by its ledger and by lists over positions and blocks, and what it means:
-- this project's own rule.
use Rattle.std.specs.Prelude.{◌≡◌, ℕ, ◌+◌, ◌<◌, List, [], ◌∷◌, length, slice_index, Option, Some}
use Rattle.std.specs.Prelude.{None}
use Rattle.bits.specs.Cells.{Cells}
use Rattle.events.specs.declared.blocks.RetiredBlock.{RetiredBlock}
use Rattle.events.specs.declared.ledger.Ledger.{Ledger}
use Rattle.events.specs.Story.{Story, newest, bitmap_of, came}
use Rattle.events.specs.Blocks.{Blocks}
use Rattle.events.specs.Ledger.{IsLedger}
use Rattle.events.specs.Words.{Base, tiles}

-- the summary of a log
pub record Summary : Type 0 where
  pub ledger : Ledger
  pub draft : Cells
  -- the newest version's bitmap
  pub published : Cells
  -- for each position the version with which its newest block came, and the draft's own block
  pub came : List ℕ
  pub own : List (Option ℕ)
  pub free : List ℕ
  pub retired : List RetiredBlock

-- a summary is that of this log
pub record IsSummary (k : Base) (s : Story) (m : Blocks) (u : Summary) : Type 0 where
  pub ledger_is : IsLedger k s u.ledger
  pub draft_is : u.draft ≡ s.draft
  pub published_is : u.published ≡ bitmap_of s (newest s)
  pub came_long : length u.came ≡ tiles k
  pub came_is : (p : ℕ) → p < tiles k → slice_index u.came p ≡ came s p (newest s)
  pub own_is : u.own ≡ m.own
  pub free_is : u.free ≡ m.free
  pub retired_is : u.retired ≡ m.retired

-- a publish brings a position to the new version if the draft had its own block there
abbrev pub came_with : ℕ → Option ℕ → ℕ → ℕ
came_with newest None c = c
came_with newest (Some b) c = newest + 1

-- a publish brings each position to the new version, or leaves it at the one that it had
abbrev pub came_after : ℕ → List (Option ℕ) → List ℕ → List ℕ
came_after newest [] came = []
came_after newest (o ∷ own) [] = []
came_after newest (o ∷ own) (c ∷ came) = came_with newest o c ∷ came_after newest own came

-- the blocks of the newest version that a publish replaces and retires, from position k on
abbrev pub retired_by : ℕ → ℕ → List (Option ℕ) → List ℕ → List ℕ → List RetiredBlock
retired_by newest k [] came blocks = []
retired_by newest k (o ∷ own) [] blocks = []
retired_by newest k (o ∷ own) (c ∷ came) [] = []
retired_by newest k (None ∷ own) (c ∷ came) (b ∷ blocks) = retired_by newest (k + 1) own came blocks
retired_by newest k (Some o ∷ own) (c ∷ came) (b ∷ blocks) =
    record { block = b; position = k; first = c; last = newest }
    ∷ retired_by newest (k + 1) own came blocks
