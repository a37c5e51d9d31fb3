-- The cells so far are filled.
use Rattle.std.proofs.Common.{ℕ, ◌-◌, ◌+◌, ◌<◌, ◌≤◌, length, slice_index_or}
use Rattle.envelope.specs.Columns.{IsSaid}
use Rattle.envelope.proofs.beside.fill_cells.Given as goal

abbrev pub invariant-cells : goal.invariant-cells
invariant-cells g l = record {
  within : l.start ≤ length l.answers + 15;
  filled : (x : ℕ) → x < l.start → x < length l.answers
      → IsSaid g.A.CellValue.says g.M.Metric.distance l.entries l.y g.B.Border.EDGE x
      (slice_index_or l.answers x g.A.CellValue.unset);
}

abbrev pub decreases-cells : goal.decreases-cells
decreases-cells g l = length l.answers + 16 - l.start
