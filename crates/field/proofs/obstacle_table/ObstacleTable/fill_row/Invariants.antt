-- The cells so far are filled.
use Rattle.std.proofs.Common.{◌≡◌, ℕ, ◌<◌, slice_index_or, None}
use Rattle.field.specs.Obstacles.{seen_from}
use Rattle.field.proofs.obstacle_table.ObstacleTable.fill_row.Given as goal

abbrev pub invariant-loop-x : goal.invariant-loop-x
invariant-loop-x g l = record {
  seen : (x : ℕ) → x < l.x
      → slice_index_or l.nears x None ≡ seen_from g.M.Metric.distance x l.y
      (slice_index_or l.cells x None);
}
