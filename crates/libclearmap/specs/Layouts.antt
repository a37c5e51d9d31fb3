-- The layout of a map in the caller's memory: this project's own rule. Its rows lie one after
-- another from the top, a fixed number of bytes or words apart.
use Rattle.std.specs.Prelude.{◌≡◌, ℕ, ◌+◌, ◌-◌, ◌*◌, ◌/◌, ◌^◌, ◌≤◌, ◌<◌, ◌==◌, ◌&&◌, ◌||◌, nat_le}
use Rattle.std.specs.Prelude.{Bool, List, slice_index}
use Rattle.std.specs.Int.{bit_at}
use Rattle.bits.specs.Cells.{Cells, IsObstacle, IsSide, cells_where}
use Rattle.bits.specs.Stored.{is_stored}
use Rattle.bits.specs.Words.{words_across}
use Rattle.libclearmap.specs.declared.layout.ClearmapBytes.{ClearmapBytes}
use Rattle.libclearmap.specs.declared.layout.ClearmapBits.{ClearmapBits}

-- whether a byte marks an obstacle: it lies between two bounds
abbrev pub is_obstacle_byte : ℕ → ℕ → ℕ → Bool
is_obstacle_byte low high byte = nat_le low byte && nat_le byte high

-- whether cell (x, y) of a map in bytes is an obstacle
abbrev pub is_dark : ClearmapBytes → List ℕ → ℕ → ℕ → Bool
is_dark map bytes x y = is_obstacle_byte map.low map.high (slice_index bytes (y * map.stride + x))

-- the map in the bytes
abbrev pub cells_of_bytes : ClearmapBytes → List ℕ → Cells
cells_of_bytes map bytes = cells_where map.width map.height (is_dark map bytes)

-- whether row y is in a band that isn't known to be blank
abbrev pub is_counted : ℕ → ℕ → Bool
is_counted blank_bands y = bit_at blank_bands (y / 64) == 0

-- whether the bit of cell (x, y) of a map in bits is 1, in a band that isn't known to be blank
abbrev pub is_set : ClearmapBits → List ℕ → ℕ → ℕ → Bool
is_set map words x y = is_counted map.blank_bands y && is_stored map.stride words x y

-- the map in the words, whatever is known of its tiles
abbrev pub cells_of_rows : ClearmapBits → List ℕ → Cells
cells_of_rows map words = cells_where map.width map.height (is_set map words)

-- whether cell (x, y) is in a tile that isn't known to be blank, by the marks from an index on; no
-- tile is known to be where the index is 0
abbrev pub is_tile_counted : ℕ → List ℕ → ℕ → ℕ → Bool
is_tile_counted tiles words x y = tiles == 0
    || bit_at (slice_index words (tiles + y / 64)) (x / 64) == 0

-- whether cell (x, y) of a map in bits is an obstacle: its bit is 1, and its band's and tile's are 0
abbrev pub is_marked : ClearmapBits → List ℕ → ℕ → ℕ → Bool
is_marked map words x y = is_tile_counted map.tiles words x y && is_set map words x y

-- the map in the words
abbrev pub cells_of_bits : ClearmapBits → List ℕ → Cells
cells_of_bits map words = cells_where map.width map.height (is_marked map words)

-- the tile has no obstacle
abbrev pub IsBlankTile : Cells → ℕ → ℕ → Type 0
IsBlankTile cells band tile =
    (x y : ℕ) → y / 64 ≡ band → x / 64 ≡ tile → IsObstacle cells x y → ⊥

-- how many words the rows of a map in bits take, with what lies between them
abbrev pub rows_end : ClearmapBits → ℕ
rows_end map = (map.height - 1) * map.stride + words_across map.width

-- how many bands of 64 rows a map in bits has
abbrev pub bands_down : ClearmapBits → ℕ
bands_down map = (map.height + 63) / 64

-- a map of this size fits this many items, with `across` items in a row and rows `stride` apart
pub record IsShape (width height across stride count : ℕ) : Type 0 where
  pub width_is : IsSide width
  pub height_is : IsSide height
  pub apart : across ≤ stride
  pub few : stride < 2 ^ 32
  pub room : (height - 1) * stride + across ≤ count
