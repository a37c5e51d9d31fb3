-- The rows so far are free.
use Rattle.libclearmap.proofs.Names.{false, cells_of_bits}
use Rattle.bits.specs.Cells.{with_rect}
use Rattle.libclearmap.specs.Paints.{IsChangedTo}
use Rattle.libclearmap.proofs.paint.clear_rows.Given as goal

abbrev pub invariant-rows : goal.invariant-rows
invariant-rows l = IsChangedTo l.map l.fn.words l.map l.words
    (with_rect (cells_of_bits l.map l.fn.words) l.rect.x0 l.rect.y0 l.rect.x1 l.y false)
