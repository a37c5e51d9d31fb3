-- One more row has its costs.
use Rattle.libclearmap.proofs.Names.{◌≡◌, ◌-◌, ◌*◌, ◌∙◌, arith, refl}
use Rattle.std.specs.Prelude.{slice_index_or}
use Rattle.bits.specs.Edges.{IsBlocked}
use Rattle.column.proofs.Places.{row_ends}
use Rattle.field.proofs.BandLemmas.{rows_put}
use Rattle.libclearmap.specs.Costs.{IsPriced, no_distance}
use Rattle.libclearmap.proofs.costs.fill_rows.Goals as goal

pub rows-preserved : goal.rows-preserved
rows-preserved g c =
    let batch = c.args.batch.now in
    let cells = batch.bitmap.now in
    let row = c.measure.ensures.line in
    let told = c.write_costs.ensures in
    let start : c.from.result * c.width-width.result ≡ (c.rows.y - batch.y0) * cells.width =
    rw (c.from.ensures, c.width-width.ensures.width) refl in
    let ends = row_ends (c.rows.y - batch.y0) (batch.y1 - batch.y0) cells.width
    (omega (arith, c.rows-test.true)) in
    record {
      filled = rows_put (IsPriced c.args.table.now g.M.Metric.distance
          (IsBlocked cells batch.edge)) 0 cells.width batch.y0 c.rows.y
          (c.from.result * c.width-width.result) c.width-width.result c.rows.costs
          c.write_costs.new.costs (omega arith) start c.width-width.ensures.width
          (omega (arith, start, ends, c.rows.auto.costs, c.requires.room.as_many))
          (told.len ∙ row.as_many) c.rows.invariant.filled
          (λ x column. let it = row.each x column in record {
            near = it.near;
            near_is = it.near_is;
            number = (slice_index_or c.measure.new.line x no_distance).dist;
            away = it.said;
            byte_is = told.costs x (rw row.as_many column);
          });
      ready = c.measure.ensures.ready;
    }
