-- The spans so far are those of the columns so far.
use Rattle.std.proofs.Common.{◌≡◌, ◌≤◌}
use Rattle.envelope.specs.Columns.{IsColumnFrom, gap_of}
use Rattle.envelope.specs.Envelope.{IsCovered}
use Rattle.envelope.proofs.cover.cover.Given as goal

-- the spans so far are those of the columns so far
abbrev pub invariant-columns : goal.invariant-columns
invariant-columns g l = record {
  few : l.count ≤ l.column;
  covered : IsCovered g.M.Metric.distance (gap_of l.entries l.y)
      (IsColumnFrom l.entries l.piece.first l.column) l.spans l.count l.piece.end;
  end_is : l.column-end ≡ l.piece.last;
}
