-- The values of the rows so far stand in order.
use Rattle.field.specs.Bands.{AreValues}
use Rattle.field.specs.Phases.{IsNextLine}
use Rattle.field.proofs.table.values.Given as goal

abbrev pub invariant-rows : goal.invariant-rows
invariant-rows g l = record {
  said : AreValues g.V.CellValue.says g.V.CellValue.unset g.M.Metric.distance
      l.batch.bitmap.now l.batch.edge l.batch.y0 l.y l.values.items;
  phases : IsNextLine l.batch l.phases l.y;
}
