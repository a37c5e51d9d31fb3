-- The spans that are left are those of the cells up to some end, and from there on the new column
-- is strictly nearer.
use Rattle.std.proofs.Common.{◌≤◌}
use Rattle.envelope.specs.Columns.{IsColumnFrom, gap_of}
use Rattle.envelope.specs.Envelope.{IsCutAt}
use Rattle.envelope.proofs.cover.kept_spans.Given as goal

-- the spans that are left are those of the cells up to some end; from there on the column is
-- strictly nearer than all before
abbrev pub invariant-spans : goal.invariant-spans
invariant-spans g l = record {
  few : l.kept ≤ l.count;
  cut : IsCutAt g.M.Metric.distance (gap_of l.entries l.y)
      (IsColumnFrom l.entries l.fn._piece.first l.column) l.spans l.kept l.fn._piece.end l.column;
}

abbrev pub decreases-spans : goal.decreases-spans
decreases-spans g l = l.kept
