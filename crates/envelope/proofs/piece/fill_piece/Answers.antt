-- The spans of the piece, and the obstacles that they stand for.
use Rattle.std.proofs.Common.{◌≤◌, length, take, arith}
use Rattle.std.proofs.lemmas.List.{get_or-take, length-take-le}
use Rattle.envelope.specs.Columns.{IsColumnFrom, gap_of}
use Rattle.envelope.specs.Envelope.{no_span}
use Rattle.envelope.proofs.Filling.{covered_same}
use Rattle.envelope.proofs.piece.fill_piece.Goals as goal

pub fill-requires-clause-covered : goal.fill-requires-clause-covered
fill-requires-clause-covered g c =
    let count = c.cover-count.result in
    let spans = c.cover-count.new.spans in
    let few = c.cover-count.ensures.few in
    let room : count ≤ length spans = omega (arith, few, c.requires.room, c.cover-count.auto.spans)
    in
    rw (length-take-le count spans room)
    (covered_same _ (gap_of c.args.entries.now c.args.y)
    (IsColumnFrom c.args.entries.now c.args.piece.first c.args.piece.last) spans
    (take count spans) count c.args.piece.end
    (λ place below. get_or-take count spans place no_span below)
    c.cover-count.ensures.covered)
