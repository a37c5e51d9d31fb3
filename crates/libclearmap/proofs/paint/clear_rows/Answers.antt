-- One more row is free.
use Rattle.libclearmap.proofs.Names.{◌+◌, ◌∙◌, ap, false, Cells, arith, cells_of_bits, is_marked}
use Rattle.bits.specs.Cells.{with_rect}
use Rattle.libclearmap.proofs.PaintLemmas.{changed_as, changed_then, unchanged, with_more_rows}
use Rattle.libclearmap.proofs.PaintLemmas.{with_no_rows}
use Rattle.libclearmap.proofs.paint.clear_rows.Goals as goal

pub rows-init : goal.rows-init
rows-init c =
    let map = c.args.map.now in
    let words = c.args.words.now in
    let rect = c.args.rect in
    changed_as map words map words _ _ (unchanged map words c.requires.right)
    (with_no_rows map.width map.height (is_marked map words) rect.x0 rect.y0 rect.x1 false)

pub rows-preserved : goal.rows-preserved
rows-preserved c =
    let map = c.args.map.now in
    let words = c.args.words.now in
    let rect = c.args.rect in
    let before = c.rows.invariant in
    let y = c.rows.y in
    changed_as map words map c.write_row.new.words _ _
    (changed_then map words map c.rows.words map c.write_row.new.words _ _ before
    c.write_row.ensures)
    (ap (λ (cells : Cells). with_rect cells rect.x0 y rect.x1 (y + 1) false) before.cells_are
    ∙ with_more_rows (cells_of_bits map words) rect.x0 rect.y0 rect.x1 y false (omega arith))
