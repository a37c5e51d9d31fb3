-- The line has what both halves tell.
use Rattle.std.proofs.Common.{◌≡◌, ◌<◌, ◌∙◌, length, slice_index, rules}
use Rattle.std.proofs.lemmas.List.{get_or_read}
use Rattle.field.proofs.HalfLemmas.{row_told}
use Rattle.field.proofs.compact_strip.CompactStrip.fill_row.Goals as goal

pub returns-clause-each : goal.returns-clause-each
returns-clause-each c =
    let strip = c.args.self.now in
    let row = c.args.row in
    let below : row < length strip.starts.items = search rules in
    let start : c.index.result.now ≡ slice_index strip.starts.items row =
    get_or_read strip.starts.items row c.index.result.now below c.index.ensures 0 in
    λ x inside. c.put_numbers.ensures.each x inside
    ∙ row_told (length c.args.distances.now) strip.low.items strip.high.items strip.starts.items
    c.deref.result.now c.deref-2.result.now row c.index.result.now x c.requires.lines below start
    c.deref.ensures.value c.deref-2.ensures.value inside
