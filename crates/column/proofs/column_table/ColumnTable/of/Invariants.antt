-- The rows so far have their entries.
use Rattle.column.specs.Carrying.{IsNextRow}
use Rattle.column.specs.Tabled.{HasRows}
use Rattle.column.proofs.column_table.ColumnTable.of.Given as goal

abbrev pub invariant-rows : goal.invariant-rows
invariant-rows l = record {
  columns : IsNextRow l.batch l.columns l.y;
  rows : HasRows l.bitmap l.edge l.bitmap.width l.y l.lines;
}
