-- The spans that are left are those of the cells before the end, and the cells of the piece from
-- there on are filled.
use Rattle.std.proofs.Common.{◌≡◌, ℕ, ◌+◌, ◌<◌, ◌≤◌, ◌⊎◌, length, slice_index_or}
use Rattle.metric.specs.Edge.{shift}
use Rattle.envelope.specs.Columns.{IsAmong, IsColumnFrom, IsSaid, gap_of}
use Rattle.envelope.specs.Envelope.{IsEnvelope}
use Rattle.envelope.proofs.fill.fill.Given as goal

-- the cells of the span so far are filled, and all others are as before
abbrev pub invariant-cells : goal.invariant-cells
invariant-cells g l = record {
  among : IsAmong l.entries (length l.entries) l.span.column;
  gap_is : l.span.gap ≡ gap_of l.entries l.y l.span.column;
  gap_few : l.span.gap ≤ 4097;
  filled : (x : ℕ) → l.span.start ≤ x + shift g.B.Border.EDGE
      → l.piece.from ≤ x + shift g.B.Border.EDGE → x < l.x
      → IsSaid g.A.CellValue.says g.M.Metric.distance l.entries l.y g.B.Border.EDGE x
      (slice_index_or l.answers x g.A.CellValue.unset);
  others : (x : ℕ) → (x + shift g.B.Border.EDGE < l.piece.from)
      ⊎ (l.end ≤ x + shift g.B.Border.EDGE)
      → slice_index_or l.answers x g.A.CellValue.unset
      ≡ slice_index_or l.initial.answers x g.A.CellValue.unset;
}

-- the spans that are left are those of the cells before the end, and the piece's cells from there
-- on are filled
abbrev pub invariant-spans : goal.invariant-spans
invariant-spans g l = record {
  few : l.count ≤ length l.spans;
  within : l.end ≤ l.piece.end;
  covered : IsEnvelope g.M.Metric.distance (gap_of l.entries l.y)
      (IsColumnFrom l.entries l.piece.first l.piece.last) l.spans l.count l.end;
  filled : (x : ℕ) → l.end ≤ x + shift g.B.Border.EDGE → l.piece.from ≤ x + shift g.B.Border.EDGE
      → x + shift g.B.Border.EDGE < l.piece.end → x < length l.answers
      → IsSaid g.A.CellValue.says g.M.Metric.distance l.entries l.y g.B.Border.EDGE x
      (slice_index_or l.answers x g.A.CellValue.unset);
  others : (x : ℕ) → (x + shift g.B.Border.EDGE < l.piece.from)
      ⊎ (l.piece.end ≤ x + shift g.B.Border.EDGE)
      → slice_index_or l.answers x g.A.CellValue.unset
      ≡ slice_index_or l.fn.answers x g.A.CellValue.unset;
}

abbrev pub decreases-spans : goal.decreases-spans
decreases-spans g l = l.count
