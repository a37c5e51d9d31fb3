-- The words so far have taken the marks of their tiles if they have obstacles, and no other.
use Rattle.libclearmap.proofs.Names.{◌≡◌, ℕ, ◌<◌, get_or, bit_at, words_across, words_of_row}
use Rattle.libclearmap.proofs.marks.marks_after.Given as goal

abbrev pub invariant-words : goal.invariant-words
invariant-words g l = let cells = g.R.Rows.cells l.fn.rows in record {
  rows : l.rows ≡ l.fn.rows;
  some : (k i : ℕ) → k < l.index → bit_at (get_or (words_of_row cells l.y) k 0) i ≡ 1
      → bit_at l.left k ≡ 0;
  fewer : (k : ℕ) → k < 64 → bit_at l.marks k ≡ 0 → bit_at l.left k ≡ 0;
  none : (k : ℕ) → k < 64 → (k < words_across cells.width
      → get_or (words_of_row cells l.y) k 0 ≡ 0) → bit_at l.left k ≡ bit_at l.marks k;
}
