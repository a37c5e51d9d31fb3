-- The rows so far have been searched.
use Rattle.column.specs.Capped.{capped}
use Rattle.column.proofs.SoughtLemmas.{IsSought, IsRowFromTo}
use Rattle.column.proofs.sought.seek_from.Given as goal

abbrev pub invariant-rows : goal.invariant-rows
invariant-rows l = record {
  sought : IsSought (capped l.edge l.bitmap) (IsRowFromTo (capped l.edge l.bitmap) l.y l.row)
      l.missing l.line;
}
