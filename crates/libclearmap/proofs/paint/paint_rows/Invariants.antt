-- The rows so far are painted.
use Rattle.libclearmap.proofs.Names.{true, cells_of_bits}
use Rattle.bits.specs.Cells.{with_rect}
use Rattle.libclearmap.specs.Paints.{IsChangedTo}
use Rattle.libclearmap.proofs.paint.paint_rows.Given as goal

abbrev pub invariant-rows : goal.invariant-rows
invariant-rows l = IsChangedTo l.fn.map l.fn.words l.map l.words
    (with_rect (cells_of_bits l.fn.map l.fn.words) l.rect.x0 l.rect.y0 l.rect.x1 l.y true)
