-- The rows so far are filled.
use Rattle.std.proofs.Common.{ℕ, ◌+◌, ◌-◌, ◌*◌, ◌<◌, ◌≤◌, slice_index_or}
use Rattle.bits.specs.Edges.{IsBlocked}
use Rattle.envelope.specs.Rows.{SaysNear}
use Rattle.field.specs.Phases.{IsNextLine}
use Rattle.field.proofs.filling.fill_values.Given as goal

abbrev pub invariant-rows : goal.invariant-rows
invariant-rows g l = record {
  filled : (x b : ℕ) → x < l.batch.bitmap.now.width → l.batch.y0 ≤ b → b < l.y
      → SaysNear g.V.CellValue.says g.M.Metric.distance
      (IsBlocked l.batch.bitmap.now l.batch.edge) x b
      (slice_index_or l.values ((b - l.batch.y0) * l.batch.bitmap.now.width + x)
      g.V.CellValue.unset);
  phases : IsNextLine l.batch l.phases l.y;
}
