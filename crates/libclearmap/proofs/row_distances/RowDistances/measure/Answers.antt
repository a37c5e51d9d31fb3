-- The nearest columns are those of the bitmap.
use Rattle.libclearmap.proofs.Names.{◌≡◌, ◌+◌, arith, refl}
use Rattle.metric.specs.Edge.{shift}
use Rattle.bits.specs.Edges.{framed}
use Rattle.bits.proofs.Framing.{framed_map, framed_size}
use Rattle.envelope.proofs.Nears.{entries_of_row}
use Rattle.libclearmap.proofs.row_distances.RowDistances.measure.Goals as goal

pub values_from-requires-clause-entries : goal.values_from-requires-clause-entries
values_from-requires-clause-entries g c =
    let batch = c.args.batch.now in
    let cells = batch.bitmap.now in
    let high = (framed_size batch.edge cells).1 in
    rw (c.deref.ensures.value, c.shift.ensures)
    (entries_of_row (framed batch.edge cells) (c.args.y + shift batch.edge)
    c.look.new.self.entries.items (framed_map batch.edge cells c.requires.ready.bitmap)
    (omega (arith, high, c.requires.row, batch.within)) c.look.ensures.entries)

pub returns-clause-line : goal.returns-clause-line
returns-clause-line g c =
    let batch = c.args.batch.now in
    let row_is : c.args.y + c.shift.result ≡ c.args.y + shift batch.edge =
    rw c.shift.ensures refl in
    c.values_from.ensures.values batch.bitmap.now c.args.y c.requires.ready.bitmap
    (omega (arith, c.requires.row, batch.within)) row_is
    (rw (c.deref.ensures.value, c.shift.ensures) c.look.ensures.entries)
