-- The rows so far are written, and those bands count as blank that are, as far as they are read.
use Rattle.libclearmap.proofs.Names.{◌≡◌, ℕ, ◌<◌, ◌≤◌, ◌+◌, ◌*◌, ◌/◌, get_or, length, bit_at}
use Rattle.libclearmap.proofs.Names.{IsObstacle, words_across, IsBlankRow, words_of_row}
use Rattle.libclearmap.proofs.copy.pack_rows.Given as goal

abbrev pub invariant-rows : goal.invariant-rows
invariant-rows g l = let cells = g.R.Rows.cells l.fn.rows in record {
  rows : l.rows ≡ l.fn.rows;
  long : length l.words ≡ length l.fn.words;
  packed : (y k : ℕ) → y < l.y → k < words_across cells.width
      → get_or l.words (y * words_across cells.width + k) 0 ≡ get_or (words_of_row cells y) k 0;
  marked : (x y : ℕ) → y < l.y → IsObstacle cells x y → bit_at l.blank (y / 64) ≡ 0;
  blank : (band : ℕ) → band < 64 → ((y : ℕ) → y / 64 ≡ band → IsBlankRow cells y)
      → bit_at l.blank band ≡ 1;
  rest : (k : ℕ) → cells.height * words_across cells.width ≤ k
      → get_or l.words k 0 ≡ get_or l.fn.words k 0;
}
