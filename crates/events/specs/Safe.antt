-- What holds of a world after each event: the theorem of the core, item by item. This project's own
-- rule.
use Rattle.std.specs.Prelude.{◌≡◌, ◌≢◌, ℕ, ◌+◌, ◌<◌, ◌⊎◌, ◌==◌, nat_lt, cond, List, [], ◌∷◌, ◌++◌}
use Rattle.std.specs.Prelude.{length, slice_get, slice_index, Option, Some, Contains}
use Rattle.bits.specs.Tiles.{row_word}
use Rattle.events.specs.declared.command.Entry.{Entry}
use Rattle.events.specs.Story.{Story, newest, bitmap_of, IsKept}
use Rattle.events.specs.Legal.{IsLegal}
use Rattle.events.specs.declared.blocks.RetiredBlock.{RetiredBlock}
use Rattle.events.specs.Blocks.{Blocks, directory_of, own_list, blocks_of}
use Rattle.events.specs.Words.{tiles, now_at, map_at, tile_at, now_word, slot_of, shown}
use Rattle.events.specs.Views.{Reader, State, story_of, blocks_of_state}

-- what one part has seen is a prefix of a log
pub record IsBeginning (seen log : List Entry) : Type 0 where
  pub rest : List Entry
  pub whole : seen ++ rest ≡ log

-- some reader holds version v
pub record IsVersionHeld (w : State) (v : ℕ) : Type 0 where
  pub reader : ℕ
  pub view : Reader
  pub there : slice_get w.readers reader ≡ Some view
  pub holds : view.holds ≡ Some v

-- a version is live if it is the newest, or a reader holds it, or it is kept
abbrev pub IsLive : State → ℕ → Type 0
IsLive w v = (v ≡ newest (story_of w)) ⊎ (IsVersionHeld w v ⊎ IsKept (story_of w) v)

-- a block is live if a live version maps a position to it
pub record IsLiveBlock (w : State) (block : ℕ) : Type 0 where
  pub version : ℕ
  pub live : IsLive w version
  pub position : ℕ
  pub inside : position < tiles w.base
  pub there : slice_index (directory_of (blocks_of_state w) version) position ≡ block

-- how often a number is in a list
abbrev pub times : ℕ → List ℕ → ℕ
times n [] = 0
times n (m ∷ ms) = cond (n == m) 1 0 + times n ms

-- each number below this one is in the list exactly once, and no other is
abbrev pub IsEachOnce : List ℕ → ℕ → Type 0
IsEachOnce ns count = (n : ℕ) → times n ns ≡ cond (nat_lt n count) 1 0

-- a kept version maps a retired block, and the newest doesn't
pub record IsMappedStill (s : Story) (m : Blocks) (r : RetiredBlock) : Type 0 where
  pub version : ℕ
  pub kept : IsKept s version
  pub inside : r.position < length (directory_of m version)
  pub there : slice_index (directory_of m version) r.position ≡ r.block
  pub gone : times r.block (directory_of m (newest s)) ≡ 0

-- the blocks of a map with these versions and this many blocks are sound
pub record IsSound (s : Story) (m : Blocks) (count : ℕ) : Type 0 where
  -- each block is exactly one of free, the draft's, the newest's or retired
  pub once : IsEachOnce (m.free ++ own_list m.own ++ directory_of m (newest s)
      ++ blocks_of m.retired) count
  -- each retired block is one that a kept version maps, and the newest doesn't
  pub retired : (r : RetiredBlock) → Contains m.retired r → IsMappedStill s m r

-- the words show a version: its slot has its blocks, these have its rows, with the published cells
pub record IsShown (w : State) (v : ℕ) : Type 0 where
  pub directory : (p : ℕ) → p < tiles w.base
      → slice_index w.words (map_at w.base (slot_of w.base (story_of w) v) p)
      ≡ slice_index (directory_of (blocks_of_state w) v) p
  pub rows : (p i : ℕ) → p < tiles w.base → i < 64
      → slice_index w.words (tile_at w.base (slice_index (directory_of (blocks_of_state w) v) p) i)
      ≡ row_word (bitmap_of (story_of w) v) p i
  pub cells : shown w.base w.words (slot_of w.base (story_of w) v) ≡ bitmap_of (story_of w) v

-- this holds of a world between any two events
pub record IsSafe (w : State) : Type 0 where
  -- the log is legal, and NOW has its length, its newest version, and that version's slot
  pub legal : IsLegal w.base.setting w.base.opening w.keeper.log
  pub now : slice_index w.words now_at ≡ now_word (length w.keeper.log) (newest (story_of w))
      (slot_of w.base (story_of w) (newest (story_of w)))
  -- each held version is kept
  pub held : (v : ℕ) → IsVersionHeld w v → IsKept (story_of w) v
  -- each live version is shown
  pub shows : (v : ℕ) → IsLive w v → IsShown w v
  -- the blocks are sound, and no live block is free or the draft's
  pub sound : IsSound (story_of w) (blocks_of_state w) w.base.setting.blocks
  pub apart : (b : ℕ) → IsLiveBlock w b → (times b (blocks_of_state w).free ≡ 0)
      × (times b (own_list (blocks_of_state w).own) ≡ 0)
  -- what a reader has seen is a prefix of the log
  pub seen : (r : ℕ) (x : Reader) → slice_get w.readers r ≡ Some x → IsBeginning x.seen w.keeper.log

-- a step that stored this word has stored in no block that was live before it
abbrev pub SparesLive : State → Option ℕ → Type 0
SparesLive w stored = (b i : ℕ) → i < 64 → IsLiveBlock w b → stored ≢ Some (tile_at w.base b i)
