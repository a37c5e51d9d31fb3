-- A map in bits whose cells or marks are written: this project's own rule.
use Rattle.std.specs.Prelude.{◌≡◌, ℕ, ◌+◌, ◌*◌, ◌<◌, ◌≤◌, ◌⊎◌, List, slice_index}
use Rattle.bits.specs.Cells.{Cells}
use Rattle.bits.specs.Words.{words_across}
use Rattle.libclearmap.specs.declared.layout.ClearmapBits.{ClearmapBits}
use Rattle.libclearmap.specs.Layouts.{bands_down, cells_of_bits}
use Rattle.libclearmap.specs.Statuses.{bits_status}

-- two layouts differ in nothing but which bands they say are blank
pub record IsAlike (map next : ClearmapBits) : Type 0 where
  pub width_same : next.width ≡ map.width
  pub height_same : next.height ≡ map.height
  pub stride_same : next.stride ≡ map.stride
  pub tiles_same : next.tiles ≡ map.tiles

-- word k is in none of the map's rows, and marks none of its tiles
pub record IsUnused (map : ClearmapBits) (k : ℕ) : Type 0 where
  pub beside_rows : (y : ℕ) → y < map.height
      → (k < y * map.stride) ⊎ (y * map.stride + words_across map.width ≤ k)
  pub beside_marks : (map.tiles ≡ 0) ⊎ ((k < map.tiles) ⊎ (map.tiles + bands_down map ≤ k))

-- a map's words and layout become others, which are right and have these cells; of its layout only
-- the blank bands change, and of its words none that is unused
pub record IsChangedTo (map : ClearmapBits) (words : List ℕ) (next : ClearmapBits)
    (others : List ℕ) (cells : Cells) : Type 0 where
  pub alike : IsAlike map next
  pub right : bits_status next others ≡ 0
  pub cells_are : cells_of_bits next others ≡ cells
  pub unused : (k : ℕ) → IsUnused map k → slice_index others k ≡ slice_index words k
