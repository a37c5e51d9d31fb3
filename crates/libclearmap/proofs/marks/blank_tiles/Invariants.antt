-- The rows so far have taken the marks of the tiles in which they have obstacles, and no other.
use Rattle.libclearmap.proofs.Names.{◌≡◌, ℕ, ◌<◌, ◌/◌, get_or, length, bit_at, IsObstacle}
use Rattle.libclearmap.proofs.Names.{IsBlankTile}
use Rattle.libclearmap.proofs.marks.blank_tiles.Given as goal

abbrev pub invariant-rows : goal.invariant-rows
invariant-rows g l = let cells = g.R.Rows.cells l.fn.rows in record {
  rows : l.rows ≡ l.fn.rows;
  long : length l.marks ≡ 64;
  some : (x y : ℕ) → y < l.y → IsObstacle cells x y
      → bit_at (get_or l.marks (y / 64) 0) (x / 64) ≡ 0;
  none : (band tile : ℕ) → band < 64 → tile < 64 → IsBlankTile cells band tile
      → bit_at (get_or l.marks band 0) tile ≡ 1;
}
