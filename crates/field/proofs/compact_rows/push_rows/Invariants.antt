-- The strip has the distances of the rows so far.
use Rattle.std.proofs.Common.{◌≡◌, ◌-◌}
use Rattle.std.specs.Vec.{vec_len}
use Rattle.field.specs.Compact.{KeepsDistances}
use Rattle.field.specs.Phases.{IsNextLine}
use Rattle.field.proofs.compact_rows.push_rows.Given as goal

abbrev pub invariant-rows : goal.invariant-rows
invariant-rows g l = record {
  count : vec_len l.strip.starts ≡ l.y - l.batch.y0;
  kept : KeepsDistances g.M.Metric.distance l.batch.bitmap.now l.batch.edge l.batch.y0 l.y l.strip;
  phases : IsNextLine l.batch l.phases l.y;
}
