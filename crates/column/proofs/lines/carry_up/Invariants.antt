-- The line has been carried up to the row.
use Rattle.std.proofs.Common.{◌+◌, ◌≤◌}
use Rattle.metric.specs.Edge.{shift}
use Rattle.column.specs.Capped.{capped}
use Rattle.column.specs.Lines.{IsLineFrom}
use Rattle.column.proofs.lines.carry_up.Given as goal

abbrev pub invariant-rows : goal.invariant-rows
invariant-rows l = record {
  at_least : l.from ≤ l.y;
  line : IsLineFrom (capped l.edge l.bitmap) (l.y + shift l.edge) l.line;
}
