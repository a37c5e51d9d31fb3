-- The rows so far have been searched.
use Rattle.column.specs.Capped.{capped}
use Rattle.column.proofs.SoughtLemmas.{IsSought, IsRowToBefore}
use Rattle.column.proofs.sought.seek_before.Given as goal

abbrev pub invariant-rows : goal.invariant-rows
invariant-rows l = record {
  sought : IsSought (capped l.edge l.bitmap) (IsRowToBefore (capped l.edge l.bitmap) l.row l.y)
      l.missing l.line;
}
