-- The rows less than this many rows away have been searched.
use Rattle.column.specs.Capped.{capped}
use Rattle.column.specs.Marks.{IsSeen}
use Rattle.column.proofs.seek.look_around.Given as goal

abbrev pub invariant-away : goal.invariant-away
invariant-away l = record {
  seen : IsSeen (capped l.edge l.bitmap) l.y l.away l.missing l.entries;
}
