-- The rows so far are copied.
use Rattle.libclearmap.proofs.Names.{◌≡◌}
use Rattle.libclearmap.proofs.CopyLemmas.{rows_front}
use Rattle.libclearmap.proofs.copy.bitmap_of.Given as goal

abbrev pub invariant-rows : goal.invariant-rows
invariant-rows g l = let cells = g.R.Rows.cells l.fn.rows in record {
  rows : l.rows ≡ l.fn.rows;
  width : l.width ≡ cells.width;
  height : l.height ≡ cells.height;
  copied : l.bitmap ≡ rows_front cells l.y;
}
