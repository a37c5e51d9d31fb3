-- The row's distances stand in its strip.
use Rattle.std.proofs.Common.{◌+◌, ◌-◌, ◌*◌, ◌%◌, ◌∙◌, arith, ap, slice_index}
use Rattle.field.proofs.CompactLemmas.{IsInStrip-read}
use Rattle.field.proofs.compact_distances.CompactDistances.fill_row.Goals as goal

pub fill_row-requires-clause-row : goal.fill_row-requires-clause-row
fill_row-requires-clause-row c =
    let inside = c.self.inside.strips in
    let from = rw (← c.self.view_is) at c.requires.from in
    let to = rw (← c.self.view_is) at c.requires.to in
    let read = c.strip_of-row in
    let it = IsInStrip-read inside.width inside.y0 inside.y1 inside.height (c.args.y - inside.y0)
    inside.all.items read.result.0.now c.self.invariant.0 c.self.invariant.1
    (omega (arith, from, to)) read.ensures.strip in
    rw (read.ensures.row, read.result.0.now.starts.ok.0) it.inside

pub returns-clause-each : goal.returns-clause-each
returns-clause-each c =
    let inside = c.self.inside.strips in
    let from = rw (← c.self.view_is) at c.requires.from in
    let to = rw (← c.self.view_is) at c.requires.to in
    let width = rw (← c.self.view_is) at c.requires.width in
    let row = c.args.y - inside.y0 in
    let read = c.strip_of-row in
    let it = IsInStrip-read inside.width inside.y0 inside.y1 inside.height row
    inside.all.items read.result.0.now c.self.invariant.0 c.self.invariant.1
    (omega (arith, from, to)) read.ensures.strip in
    let each = rw (width, read.ensures.row) at c.fill_row.ensures.each in
    rw (← c.self.view_is)
    (λ x column. each x column
    ∙ ap (λ numbers. slice_index numbers (row % inside.height * inside.width + x)) it.here)
