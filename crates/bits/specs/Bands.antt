-- Bands of 64 rows, and which of them and of their tiles may have an obstacle, as bits of numbers:
-- this project's own rule.
use Rattle.std.specs.Prelude.{◌≡◌, ℕ, ◌/◌, List, slice_index}
use Rattle.std.specs.Int.{bit_at}
use Rattle.bits.specs.Cells.{Cells, IsObstacle}
use Rattle.bits.specs.Stored.{cells_stored, IsStored}

-- each obstacle is in a band whose bit is 1: where a bit is 0, the band's rows are blank
abbrev pub IsBanded : Cells → ℕ → Type 0
IsBanded cells bands = (x y : ℕ) → IsObstacle cells x y → bit_at bands (y / 64) ≡ 1

-- each obstacle of the band is in a tile whose bit is 1: for bit k, columns 64 k to 64 k + 63
abbrev pub IsTiled : Cells → ℕ → ℕ → Type 0
IsTiled cells band tiles =
    (x y : ℕ) → IsObstacle cells x y → y / 64 ≡ band → bit_at tiles (x / 64) ≡ 1

-- each obstacle is in a tile whose bit is 1 in the number of its band
abbrev pub AreTiled : Cells → List ℕ → Type 0
AreTiled cells tiles = (x y : ℕ) → IsObstacle cells x y
    → bit_at (slice_index tiles (y / 64)) (x / 64) ≡ 1

-- the words are a bitmap of this size, and each obstacle is in a band and a tile whose bits are 1
pub record AreBandsKept (width height : ℕ) (words : List ℕ) (bands : ℕ) (tiles : List ℕ) :
    Type 0 where
  pub stored : IsStored width height words
  pub banded : IsBanded (cells_stored width height words) bands
  pub tiled : AreTiled (cells_stored width height words) tiles
