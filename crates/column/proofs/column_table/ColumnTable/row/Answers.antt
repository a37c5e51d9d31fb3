-- What a table stands for is a bitmap.
use Rattle.column.proofs.Tables.{IsBitmap-cells_tabled}
use Rattle.column.proofs.column_table.ColumnTable.row.Goals as goal

pub returns-clause-bitmap : goal.returns-clause-bitmap
returns-clause-bitmap c =
    rw (← c.self.view_is) (IsBitmap-cells_tabled c.self.inside.width c.self.inside.height
    c.self.inside.edge c.self.inside.entries.items c.self.invariant)
