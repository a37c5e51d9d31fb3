-- The words so far are the row's, and each bit of theirs is told.
use Rattle.libclearmap.proofs.Names.{◌≡◌, ℕ, ◌+◌, ◌<◌, ◌≤◌, get_or, length, bit_at, words_across}
use Rattle.libclearmap.proofs.Names.{IsBlankRow, words_of_row}
use Rattle.libclearmap.proofs.copy.pack_row.Given as goal

abbrev pub invariant-words : goal.invariant-words
invariant-words g l = let cells = g.R.Rows.cells l.fn.rows in record {
  rows : l.rows ≡ l.fn.rows;
  long : length l.words ≡ length l.fn.words;
  read : (k : ℕ) → k < l.index
      → get_or l.words (l.start + k) 0 ≡ get_or (words_of_row cells l.y) k 0;
  told : (k i : ℕ) → k < l.index → bit_at (get_or (words_of_row cells l.y) k 0) i ≡ 1
      → bit_at l.some i ≡ 1;
  none : IsBlankRow cells l.y → l.some ≡ 0;
  before : (k : ℕ) → k < l.start → get_or l.words k 0 ≡ get_or l.fn.words k 0;
  after : (k : ℕ) → l.start + words_across cells.width ≤ k
      → get_or l.words k 0 ≡ get_or l.fn.words k 0;
}
