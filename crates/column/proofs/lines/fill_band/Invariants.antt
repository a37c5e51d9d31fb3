-- The rows from this one on have their lines.
use Rattle.std.proofs.Common.{◌+◌}
use Rattle.metric.specs.Edge.{shift}
use Rattle.column.specs.Capped.{capped}
use Rattle.column.specs.Lines.{AreLinesBehind, IsLineFrom}
use Rattle.column.proofs.lines.fill_band.Given as goal

abbrev pub invariant-rows : goal.invariant-rows
invariant-rows l = record {
  line : IsLineFrom (capped l.band.edge l.band.bitmap.now) (l.y + shift l.band.edge) l.line;
  lines : AreLinesBehind l.band.bitmap.now l.band.edge l.band.y0 l.y l.band.y1 l.lines;
}
