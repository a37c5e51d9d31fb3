-- The answers of the table's row are the nearest obstacles.
use Rattle.std.proofs.Common.{◌≡◌, ◌+◌, refl, arith}
use Rattle.metric.specs.Edge.{shift}
use Rattle.bits.specs.Edges.{framed}
use Rattle.bits.proofs.Framing.{framed_map, framed_size}
use Rattle.envelope.proofs.Nears.{AreRowNears-answers, entries_of_row}
use Rattle.envelope.proofs.stack.row.Goals as goal

pub row_from-requires-clause-entries : goal.row_from-requires-clause-entries
row_from-requires-clause-entries g c =
    let edge = c.args.table.now.edge in
    let cells = c.args.table.now.cells in
    let high = (framed_size edge cells).1 in
    let row_is : c.args.y + c.shift.result ≡ c.args.y + shift edge =
    rw (c.shift.ensures, c.edge-edge.ensures) refl in
    rw row_is (entries_of_row (framed edge cells) (c.args.y + shift edge) c.row.result.now
    (framed_map edge cells c.row.ensures.bitmap)
    (omega (arith, high, c.requires.row)) c.row.ensures.row)

pub returns-clause-nears : goal.returns-clause-nears
returns-clause-nears g c =
    let edge = c.args.table.now.edge in
    let cells = c.args.table.now.cells in
    let row_is : c.args.y + c.shift.result ≡ c.args.y + shift edge =
    rw (c.shift.ensures, c.edge-edge.ensures) refl in
    AreRowNears-answers _ cells edge c.args.y cells.width c.row_from.new.answers
    ((rw c.edge-edge.ensures at c.row_from.ensures.answers) cells c.args.y c.row.ensures.bitmap
    c.requires.row row_is (rw row_is c.row.ensures.row))
