-- The cells so far are measured.
use Rattle.std.proofs.Common.{ℕ, ◌<◌, slice_index_or, None}
use Rattle.field.specs.Obstacles.{IsMeasured, seen_from}
use Rattle.field.proofs.obstacle_table.ObstacleTable.fill_distances.Given as goal

abbrev pub invariant-loop-x : goal.invariant-loop-x
invariant-loop-x g l = record {
  each : (x : ℕ) → x < l.x
      → IsMeasured g.M.Metric.distance
      (seen_from g.M.Metric.distance x l.y (slice_index_or l.cells x None))
      (slice_index_or l.distances x 0);
}
