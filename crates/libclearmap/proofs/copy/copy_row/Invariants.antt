-- The words so far are the row's.
use Rattle.libclearmap.proofs.Names.{◌≡◌, ℕ, ◌<◌, get_or, length, words_of_row}
use Rattle.libclearmap.proofs.copy.copy_row.Given as goal

abbrev pub invariant-words : goal.invariant-words
invariant-words g l = let cells = g.R.Rows.cells l.fn.rows in record {
  rows : l.rows ≡ l.fn.rows;
  long : length l.row ≡ 64;
  read : (k : ℕ) → k < l.index → get_or l.row k 0 ≡ get_or (words_of_row cells l.y) k 0;
}
