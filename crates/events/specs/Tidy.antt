-- What holds of the map and its blocks after any legal log, with no mention of words or readers.
-- This project's own rule.
use Rattle.std.specs.Prelude.{◌≡◌, ℕ, suc, ◌+◌, ◌<◌, ◌≤◌, ◌⊎◌, true, List, [], ◌∷◌, ◌++◌, length}
use Rattle.std.specs.Prelude.{map, slice_get, slice_index, slice_index_or, Some, None, is_some}
use Rattle.std.specs.List.{AllByRecursion}
use Rattle.bits.specs.Cells.{Cells, IsBitmap}
use Rattle.bits.specs.Tiles.{row_word}
use Rattle.events.specs.Story.{Story, newest, bitmap_of, kept, IsKept, changed_before, came}
use Rattle.events.specs.declared.blocks.RetiredBlock.{RetiredBlock}
use Rattle.events.specs.Blocks.{Blocks, directory_of, own_list, blocks_of, is_used}
use Rattle.events.specs.Words.{Base, tiles}
use Rattle.events.specs.Safe.{IsEachOnce}

-- the bitmap has the map's size
pub record IsOfMap (k : Base) (b : Cells) : Type 0 where
  pub width_is : b.width ≡ k.opening.width
  pub height_is : b.height ≡ k.opening.height
  pub bitmap : IsBitmap b

-- a retired block was at its position from its first version to its last, after which that changed
pub record IsRetired (k : Base) (s : Story) (m : Blocks) (r : RetiredBlock) : Type 0 where
  pub inside : r.position < tiles k
  pub used : is_used (kept s) r ≡ true
  pub before : r.last < newest s
  pub gone : changed_before s r.last r.position ≡ true
  pub first_is : r.first ≡ came s r.position r.last
  pub block_is : r.block ≡ slice_index (directory_of m r.last) r.position

-- version v has this retired block at position p
pub record IsBlockAt (block v p : ℕ) (r : RetiredBlock) : Type 0 where
  pub block_is : r.block ≡ block
  pub position_is : r.position ≡ p
  pub since : r.first ≤ v
  pub until : v ≤ r.last

-- one of some retired blocks is that of version v at position p
abbrev pub IsAmongRetired : ℕ → ℕ → ℕ → List RetiredBlock → Type 0
IsAmongRetired block v p [] = ⊥
IsAmongRetired block v p (r ∷ rs) = IsBlockAt block v p r ⊎ IsAmongRetired block v p rs

-- version v has the newest block at position p, which came with the same version in both
pub record HasNewest (s : Story) (m : Blocks) (v p : ℕ) : Type 0 where
  pub block_is : slice_index (directory_of m v) p ≡ slice_index (directory_of m (newest s)) p
  pub came_is : came s p v ≡ came s p (newest s)

-- the kept versions are in slots of the setting, each in its own, and the newest is one of them
pub record AreSlots (k : Base) (s : Story) : Type 0 where
  pub long : length s.kept.slots ≡ 64
  pub each : length s.slots ≡ length s.published
  pub newest_in : IsKept s (newest s)
  pub published : (v : ℕ) → IsKept s v → v ≤ newest s
  pub within : (i v : ℕ) → slice_index s.kept.slots i ≡ suc v → i < k.setting.versions
  pub own : (i v : ℕ) → slice_index s.kept.slots i ≡ suc v → slice_index s.slots v ≡ i

-- the lists of a story and of its blocks have their lengths
pub record IsShaped (k : Base) (s : Story) (m : Blocks) : Type 0 where
  pub own : length m.own ≡ tiles k
  pub changed : s.changed ≡ map is_some m.own
  pub published : length s.published ≡ length s.changes + 1
  pub directories : length m.directories ≡ length s.published
  pub directory : (v : ℕ) → v ≤ newest s → length (directory_of m v) ≡ tiles k
  pub changes : (v : ℕ) → v < newest s → length (slice_index_or s.changes v []) ≡ tiles k
  pub blocks : length m.free + length (own_list m.own) + tiles k + length m.retired
      ≡ k.setting.blocks

-- this holds after any legal log
pub record IsTidy (k : Base) (s : Story) (m : Blocks) : Type 0 where
  pub shape : IsShaped k s m
  pub draft : IsOfMap k s.draft
  pub published : (v : ℕ) → v ≤ newest s → IsOfMap k (bitmap_of s v)
  -- where no command has changed a position, its rows in the draft are the newest version's
  pub unchanged : (p i : ℕ) → slice_get m.own p ≡ Some None → i < 64
      → row_word s.draft p i ≡ row_word (bitmap_of s (newest s)) p i
  pub slots : AreSlots k s
  pub kept_fit : length (kept s) ≤ k.setting.versions
  -- a block is in one place
  pub once : IsEachOnce (m.free ++ own_list m.own ++ directory_of m (newest s)
      ++ blocks_of m.retired) k.setting.blocks
  pub retired : AllByRecursion (IsRetired k s m) m.retired
  -- a kept version has the newest block at a position, or a retired one
  pub mapped : (v p : ℕ) → IsKept s v → p < tiles k → HasNewest s m v p
      ⊎ IsAmongRetired (slice_index (directory_of m v) p) v p m.retired

-- what the laws require of a setting and an opening bitmap; a setting within its limits has more
pub record IsReady (k : Base) : Type 0 where
  pub bitmap : IsBitmap k.opening
  pub blocks : tiles k ≤ k.setting.blocks
  pub few_blocks : k.setting.blocks ≤ 16384
  pub versions : 1 ≤ k.setting.versions
  pub few_versions : k.setting.versions ≤ 64
  pub few_sessions : k.setting.sessions ≤ 64
  pub log : k.setting.log ≤ 1048576
