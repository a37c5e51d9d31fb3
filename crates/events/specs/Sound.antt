-- What holds between the words, the keeper and one reader between any two events. The keeper's part
-- reads no reader's word, and a reader's part no other reader. This project's own rule.
use Rattle.std.specs.Prelude.{◌≡◌, ℕ, ◌<◌, ◌≤◌, true, List, length, slice_get, slice_index, Some}
use Rattle.std.specs.Prelude.{None, IfSome}
use Rattle.std.specs.List.{AllByRecursion}
use Rattle.bits.specs.Tiles.{row_word}
use Rattle.events.specs.declared.command.Command.TheVariants.{Publish, Collect}
use Rattle.events.specs.declared.kept.Seen.TheVariants.{From, Exact}
use Rattle.events.specs.Kept.{IsIn, asks}
use Rattle.events.specs.Story.{Story, newest, bitmap_of, IsKept}
use Rattle.events.specs.Legal.{refused, IsLegal}
use Rattle.events.specs.Blocks.{Blocks, directory_of}
use Rattle.events.specs.Words.{Base, tiles, word_count, now_at, pin_at, map_at, tile_at, now_of}
use Rattle.events.specs.Words.{pin_word, slot_of}
use Rattle.events.specs.Views.{Hand, Keeper, Reader, State, story_of, blocks_of_state}
use Rattle.events.specs.Tidy.{IsReady}
use Rattle.events.specs.Steps.{steps_before, write_of, kept_scanned}
use Rattle.events.specs.Safe.{IsBeginning}

-- the words show version v, as numbers: its slot has its blocks, and these have its rows
pub record Shows (k : Base) (s : Story) (m : Blocks) (words : List ℕ) (v : ℕ) : Type 0 where
  pub mapped : (p : ℕ) → p < tiles k
      → slice_index words (map_at k (slot_of k s v) p) ≡ slice_index (directory_of m v) p
  pub rows : (p i : ℕ) → p < tiles k → i < 64
      → slice_index words (tile_at k (slice_index (directory_of m v) p) i)
      ≡ row_word (bitmap_of s v) p i

-- a version that a word announces exactly is kept
abbrev pub IsSeenKept : Story → ℕ → Type 0
IsSeenKept s word = (v : ℕ) → word ≡ pin_word (Some (Exact v)) → IsKept s v

-- the current command was accepted, and what it has done so far is in the words
pub record InHand (k : Base) (s : Story) (m : Blocks) (words : List ℕ) (h : Hand) : Type 0 where
  pub accepted : refused k.setting s h.command ≡ None
  pub within : h.done ≤ steps_before k m h.command
  pub written : h.command ≡ Publish → (n : ℕ) → n < h.done
      → slice_index words (write_of k s m n).at ≡ (write_of k s m n).word
  pub scans : h.command ≡ Collect → length h.scanned ≡ h.done
  -- what a scan has seen announced exactly is kept
  pub exact : h.command ≡ Collect → AllByRecursion (IsSeenKept s) h.scanned

-- this holds between the words and the keeper
pub record KeeperSound (k : Base) (s : Story) (m : Blocks) (words : List ℕ) (keeper : Keeper) :
    Type 0 where
  pub sized : length words ≡ word_count k
  pub legal : IsLegal k.setting k.opening keeper.log
  pub now : slice_index words now_at ≡ now_of s
  pub shows : (v : ℕ) → IsKept s v → Shows k s m words v
  pub hand : IfSome keeper.hand (InHand k s m words)

-- a scan that has passed a reader keeps what the reader holds
abbrev pub KeepsHeld : Story → ℕ → Reader → Hand → Type 0
KeepsHeld s r x h = h.command ≡ Collect → r < length h.scanned → (v : ℕ) → x.holds ≡ Some v
    → IsIn (kept_scanned s h.scanned) v

-- a held version is kept, and its reader's announcement keeps it
pub record HoldsAnnounced (s : Story) (x : Reader) (v : ℕ) : Type 0 where
  pub kept : IsKept s v
  pub asked : asks x.announced v ≡ true

-- this holds between the words, the keeper and reader r
pub record ReaderSound (k : Base) (s : Story) (words : List ℕ) (keeper : Keeper) (r : ℕ)
    (x : Reader) : Type 0 where
  pub seen : IsBeginning x.seen keeper.log
  pub word : slice_index words (pin_at r) ≡ pin_word x.announced
  -- an announced version exists; if the announcement is exact, the reader holds it
  pub announced : (a : ℕ) → x.announced ≡ Some (From a) → a ≤ newest s
  pub exact : (v : ℕ) → x.announced ≡ Some (Exact v) → x.holds ≡ Some v
  pub holds : (v : ℕ) → x.holds ≡ Some v → HoldsAnnounced s x v
  pub passed : IfSome keeper.hand (KeepsHeld s r x)

-- this holds of a world between any two events, by its parts
pub record IsWhole (w : State) : Type 0 where
  pub ready : IsReady w.base
  pub keeper : KeeperSound w.base (story_of w) (blocks_of_state w) w.words w.keeper
  pub readers : length w.readers ≡ w.base.setting.sessions
  pub reader : (r : ℕ) (x : Reader) → slice_get w.readers r ≡ Some x
      → ReaderSound w.base (story_of w) w.words w.keeper r x
