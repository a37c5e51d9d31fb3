-- The cells so far are filled.
use Rattle.std.proofs.Common.{ℕ, ◌<◌, slice_index_or}
use Rattle.envelope.specs.Columns.{IsSaid}
use Rattle.envelope.proofs.scan.tell.Given as goal

abbrev pub invariant-cells : goal.invariant-cells
invariant-cells g l = record {
  filled : (x : ℕ) → x < l.x
      → IsSaid g.A.CellValue.says g.M.Metric.distance l.entries l.fn._y g.B.Border.EDGE x
      (slice_index_or l.answers x g.A.CellValue.unset);
}
