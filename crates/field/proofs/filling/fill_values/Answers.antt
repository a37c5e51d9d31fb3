-- One more row is filled.
use Rattle.std.proofs.Common.{◌≡◌, ◌-◌, ◌*◌, ◌∙◌, arith, refl}
use Rattle.bits.specs.Edges.{IsBlocked}
use Rattle.column.proofs.Places.{row_ends}
use Rattle.envelope.specs.Rows.{SaysNear}
use Rattle.field.proofs.BandLemmas.{rows_put}
use Rattle.field.proofs.filling.fill_values.Goals as goal

pub rows-preserved : goal.rows-preserved
rows-preserved g c =
    let batch = c.args.batch.now in
    let cells = batch.bitmap.now in
    let row = c.fill_line.ensures.line in
    let start : c.from.result * c.width-width.result ≡ (c.rows.y - batch.y0) * cells.width =
    rw (c.from.ensures, c.width-width.ensures.width) refl in
    let ends = row_ends (c.rows.y - batch.y0) (batch.y1 - batch.y0) cells.width
    (omega (arith, c.rows-test.true)) in
    record {
      filled = rows_put (SaysNear g.V.CellValue.says g.M.Metric.distance
          (IsBlocked cells batch.edge)) g.V.CellValue.unset cells.width batch.y0 c.rows.y
          (c.from.result * c.width-width.result) c.width-width.result c.rows.values
          c.fill_line.new.line (omega arith) start c.width-width.ensures.width
          (omega (arith, start, ends, c.rows.auto.values, c.requires.room.as_many))
          row.as_many c.rows.invariant.filled row.each;
      phases = c.fill_line.ensures.ready;
    }

pub slice_bounds-fill_line-end : goal.slice_bounds-fill_line-end
slice_bounds-fill_line-end g c =
    let batch = c.args.batch.now in
    let ends = row_ends (c.rows.y - batch.y0) (batch.y1 - batch.y0) batch.bitmap.now.width
    (omega (arith, c.rows-test.true)) in
    let start : c.from.result * c.width-width.result
    ≡ (c.rows.y - batch.y0) * batch.bitmap.now.width =
    rw (c.from.ensures, c.width-width.ensures.width) refl in
    omega (arith, start, ends, c.width-width.ensures.width)

pub returns-clause-rows : goal.returns-clause-rows
returns-clause-rows g c = record {
  as_many = c.rows.auto.values ∙ c.requires.room.as_many;
  each = λ x b column low high. c.rows.invariant.filled x b column low (omega (arith, high));
}
