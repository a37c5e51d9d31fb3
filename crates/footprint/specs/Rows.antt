-- Which obstacles of a row a polygon meets: this project's own rule.
use Rattle.std.specs.Prelude.{◌≡◌, ℕ, ◌/◌, ◌%◌, ◌<◌, ◌≤◌, ◌↔◌, ℤ, pos, List}
use Rattle.std.specs.Int.{bit_at}
use Rattle.bits.specs.Cells.{Cells, IsObstacle}
use Rattle.footprint.specs.declared.corner.Corner.{Corner}
use Rattle.footprint.specs.declared.span.Stretch.{Stretch}
use Rattle.footprint.specs.Polygon.{IsOverlapped}
use Rattle.footprint.specs.Sides.{IsIn}

-- column x from first to end - 1 is one of a tile's word, and has a 1 there
pub record IsInWord (first end tile word x : ℕ) : Type 0 where
  pub within : IsIn first end x
  pub here : x / 64 ≡ tile
  pub bit : bit_at word (x % 64) ≡ 1

-- column x from first to end - 1 has an obstacle in row y
pub record IsStruck (cells : Cells) (y first end x : ℕ) : Type 0 where
  pub within : IsIn first end x
  pub obstacle : IsObstacle cells x y

-- a map has this many columns, and these of them are all whose cells a polygon's range overlaps, by
-- its corners' number, as their x. Rows too
pub record AreOverlapped (number : Corner → ℤ) (ring : List Corner) (count : ℕ) (columns : Stretch) :
    Type 0 where
  pub on : (n : ℕ) → IsIn columns.first columns.end n
      ↔ ((n < count) × IsOverlapped number ring (pos n))
  pub few : columns.end ≤ count
