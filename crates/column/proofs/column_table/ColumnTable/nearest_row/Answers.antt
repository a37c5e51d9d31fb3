-- The entry of the column stands for the nearest row.
use Rattle.std.proofs.Common.{◌≡◌, ◌+◌, ◌+ℤ◌, pos, arith}
use Rattle.std.proofs.lemmas.Int.{ints}
use Rattle.metric.specs.Edge.{shift}
use Rattle.bits.specs.Edges.{framed}
use Rattle.bits.proofs.Framing.{framed_size, shift_few}
use Rattle.column.specs.Columns.{IsRowOfTable}
use Rattle.column.specs.Tabled.{cells_tabled}
use Rattle.column.proofs.SpotRows.{entry_small, spot_column, spot_row}
use Rattle.column.proofs.Tables.{IsBitmap-cells_tabled}
use Rattle.column.proofs.column_table.ColumnTable.nearest_row.Goals as goal

pub column_of-column-requires-clause-left : goal.column_of-column-requires-clause-left
column_of-column-requires-clause-left c =
    let left = rw (← c.self.view_is) at c.requires.left in
    omega (arith, ints, left)

pub column_of-column-requires-clause-right : goal.column_of-column-requires-clause-right
column_of-column-requires-clause-right c =
    let t = c.self.inside in
    let right = rw (← c.self.view_is) at c.requires.right in
    let few = c.self.invariant.width_is.few in
    let least = shift_few t.edge in
    omega (arith, ints, right, few, least)

pub spot_row-requires-clause-column : goal.spot_row-requires-clause-column
spot_row-requires-clause-column c =
    let t = c.self.inside in
    let right = rw (← c.self.view_is) at c.requires.right in
    let few = c.self.invariant.width_is.few in
    let least = shift_few t.edge in
    omega (arith, ints, right, few, least, c.column_of-column.ensures)

pub spot_row-requires-clause-entry : goal.spot_row-requires-clause-entry
spot_row-requires-clause-entry c =
    let t = c.self.inside in
    let cells = cells_tabled t.width t.height t.edge t.entries.items in
    let row : IsRowOfTable (framed t.edge cells) (c.args.y + shift t.edge) c.row.result.now =
    rw (← c.self.view_is) at c.row.ensures.row in
    let right = rw (← c.self.view_is) at c.requires.right in
    let wide = (framed_size t.edge cells).0 in
    entry_small t.edge cells c.column_of-column.result (c.args.y + shift t.edge) _
    (IsBitmap-cells_tabled t.width t.height t.edge t.entries.items c.self.invariant)
    (rw c.from.ensures (row.each c.column_of-column.result
    (omega (arith, ints, right, wide, c.column_of-column.ensures))))

pub returns : goal.returns
returns c =
    let t = c.self.inside in
    let cells = cells_tabled t.width t.height t.edge t.entries.items in
    let row : IsRowOfTable (framed t.edge cells) (c.args.y + shift t.edge) c.row.result.now =
    rw (← c.self.view_is) at c.row.ensures.row in
    let right = rw (← c.self.view_is) at c.requires.right in
    let wide = (framed_size t.edge cells).0 in
    let nearest = row.each c.column_of-column.result
    (omega (arith, ints, right, wide, c.column_of-column.ensures)) in
    let found = spot_row t.edge cells c.column_of-column.result c.args.y _
    (IsBitmap-cells_tabled t.width t.height t.edge t.entries.items c.self.invariant) nearest in
    let column : pos c.column_of-column.result ≡ (c.args.x +ℤ pos (shift t.edge)) =
    omega (arith, ints, c.column_of-column.ensures) in
    rw (← c.self.view_is, c.spot_row.ensures, c.from.ensures)
    (rw (spot_column t.edge c.column_of-column.result c.args.x column) at found)
