-- The cells so far are filled, and all others are as before.
use Rattle.std.proofs.Common.{◌≡◌, ℕ, ◌+◌, ◌<◌, ◌≤◌, ◌⊎◌, slice_index_or}
use Rattle.envelope.specs.Columns.{IsSaid}
use Rattle.envelope.proofs.beside.fill_lanes.Given as goal

abbrev pub invariant-cells : goal.invariant-cells
invariant-cells g l = record {
  filled : (x : ℕ) → l.start ≤ x → x < l.start + l.lane
      → IsSaid g.A.CellValue.says g.M.Metric.distance l.entries l.y g.B.Border.EDGE x
      (slice_index_or l.answers x g.A.CellValue.unset);
  others : (x : ℕ) → (x < l.start) ⊎ (l.start + 8 ≤ x)
      → slice_index_or l.answers x g.A.CellValue.unset
      ≡ slice_index_or l.fn.answers x g.A.CellValue.unset;
}
