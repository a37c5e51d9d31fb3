-- The bands from this one on have their lines.
use Rattle.std.proofs.Common.{◌+◌, ◌-◌, ◌*◌, ◌/◌, ◌≤◌, min}
use Rattle.metric.specs.Edge.{shift}
use Rattle.column.specs.Capped.{capped}
use Rattle.column.specs.Lines.{AreBandLines, IsLineFrom}
use Rattle.column.proofs.lines.seek_bands.Given as goal

abbrev pub invariant-bands : goal.invariant-bands
invariant-bands l = record {
  few : l.band ≤ (l.batch.y1 - l.batch.y0 + 63) / 64;
  line : IsLineFrom (capped l.batch.edge l.batch.bitmap.now)
      (min (l.batch.y0 + 64 * l.band) l.batch.y1 + shift l.batch.edge) l.line;
  bands : AreBandLines l.batch.bitmap.now l.batch.edge l.batch.y0 l.batch.y1 l.band l.bands;
}
