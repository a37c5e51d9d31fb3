-- The layout of a world's words: this project's own rule. First comes NOW, then a word per reader,
-- each followed by seven unused words. The slots' directories come next, and then the blocks, 64
-- words each.
use Rattle.std.specs.Prelude.{◌≡◌, ℕ, ◌+◌, ◌-◌, ◌*◌, ◌/◌, ◌%◌, ◌^◌, ◌==◌, List, slice_index, Option}
use Rattle.std.specs.Prelude.{Some, None, if◌then◌else◌}
use Rattle.std.specs.Int.{bit_at}
use Rattle.bits.specs.Cells.{Cells, cells_where}
use Rattle.bits.specs.Tiles.{tile_count, tile_of}
use Rattle.events.specs.declared.plan.Plan.{Plan}
use Rattle.events.specs.declared.setting.Setting.{Setting}
use Rattle.events.specs.declared.kept.Seen.{Seen}
use Rattle.events.specs.declared.kept.Seen.TheVariants.{From, Exact}
use Rattle.events.specs.Kept.{first_free}
use Rattle.events.specs.Story.{Story, newest}

-- what a world was opened with
pub record Base : Type 0 where
  pub setting : Setting
  pub opening : Cells

-- the number of positions of the map
abbrev pub tiles : Base → ℕ
tiles k = tile_count k.opening

-- these sizes are those of a store
pub record IsPlan (k : Base) (plan : Plan) : Type 0 where
  pub setting_is : plan.setting ≡ k.setting
  pub tiles_is : plan.tiles ≡ tiles k

-- the number of words
unfoldable pub word_count : Base → ℕ
word_count k = 8 + 8 * k.setting.sessions + k.setting.versions * tiles k + 64 * k.setting.blocks

-- the index of the word NOW
abbrev pub now_at : ℕ
now_at = 0

-- the index of a reader's word
unfoldable pub pin_at : ℕ → ℕ
pin_at reader = 8 + 8 * reader

-- the index of the word that has the block of position p in a slot
unfoldable pub map_at : Base → ℕ → ℕ → ℕ
map_at k slot p = 8 + 8 * k.setting.sessions + (slot * tiles k + p)

-- the index of the word that has row i of a block
unfoldable pub tile_at : Base → ℕ → ℕ → ℕ
tile_at k block i = 8 + 8 * k.setting.sessions + k.setting.versions * tiles k + (block * 64 + i)

-- NOW has the place of the last entry, the newest version, and its slot
abbrev pub now_word : ℕ → ℕ → ℕ → ℕ
now_word place version slot = place * 2 ^ 35 + version * 2 ^ 6 + slot

-- the place in NOW
abbrev pub place_told : ℕ → ℕ
place_told word = word / 2 ^ 35

-- the version in NOW
abbrev pub version_told : ℕ → ℕ
version_told word = word % 2 ^ 35 / 2 ^ 6

-- the slot in NOW
abbrev pub slot_told : ℕ → ℕ
slot_told word = word % 2 ^ 6

-- the word NOW after a log
unfoldable pub now_of : Story → ℕ
now_of s = now_word s.places (newest s) (slice_index s.slots (newest s))

-- a reader's word: 0 for nothing, 2 v + 1 for version v and those after it, 2 v + 2 for v exactly
unfoldable pub pin_word : Option Seen → ℕ
pin_word None = 0
pin_word (Some (From version)) = 2 * version + 1
pin_word (Some (Exact version)) = 2 * version + 2

-- what a word announces
unfoldable pub seen_in : ℕ → Option Seen
seen_in word =
    if word == 0 then None else (if word % 2 == 1 then Some (From (word / 2))
    else Some (Exact (word / 2 - 1)))

-- the slot of a version
unfoldable pub slot_of : Base → Story → ℕ → ℕ
slot_of k s version = slice_index s.slots version

-- the slot that a publish writes
unfoldable pub next_slot : Base → Story → ℕ
next_slot k s = first_free s.kept.slots

-- the bitmap in a slot: a cell's bit is that of its column, in the row of its position's block
unfoldable pub shown : Base → List ℕ → ℕ → Cells
shown k words slot =
    cells_where k.opening.width k.opening.height
    (λ x y. bit_at
    (slice_index words (tile_at k (slice_index words (map_at k slot (tile_of k.opening x y)))
    (y % 64))) (x % 64) == 1)
