-- The map's own columns are picked, and the frame's are set.
use Rattle.std.proofs.Common.{◌≡◌, ◌<◌, ◌≤◌, ◌+◌, ◌∙◌, length, arith, rules}
use Rattle.metric.specs.Edge.{shift}
use Rattle.column.specs.Capped.{capped}
use Rattle.column.proofs.Caps.{IsRowOfTable-framed, written_inside}
use Rattle.column.proofs.LineLemmas.{IsLineBefore-marked, IsRowOfTable-between}
use Rattle.column.proofs.LineLemmas.{before_entry, from_entry}
use Rattle.column.proofs.lines.next_row.Goals as goal

pub pick_line-requires-clause-rows_above : goal.pick_line-requires-clause-rows_above
pick_line-requires-clause-rows_above c x inside =
    let edge = c.args.edge in
    let cells = c.args.bitmap.now in
    let before = IsLineBefore-marked edge cells c.args.y c.args.before.now c.mark_line.new.line
    c.requires.bitmap c.requires.row c.mark_line.ensures.len c.mark_line.ensures.marked
    c.requires.before in
    let column : x < cells.width = search rules in
    before_entry edge cells (c.args.y + 1 + shift edge) x c.mark_line.new.line c.requires.bitmap
    before column

pub pick_line-requires-clause-rows_below : goal.pick_line-requires-clause-rows_below
pick_line-requires-clause-rows_below c x inside =
    let column : x < c.args.bitmap.now.width = search rules in
    from_entry c.args.edge c.args.bitmap.now (c.args.y + 1 + shift c.args.edge) x
    c.args.behind.now c.requires.bitmap c.requires.behind column

pub returns-clause-before : goal.returns-clause-before
returns-clause-before c =
    IsLineBefore-marked c.args.edge c.args.bitmap.now c.args.y c.args.before.now
    c.mark_line.new.line c.requires.bitmap c.requires.row c.mark_line.ensures.len
    c.mark_line.ensures.marked c.requires.before

pub returns-clause-entries : goal.returns-clause-entries
returns-clause-entries c =
    let edge = c.args.edge in
    let cells = c.args.bitmap.now in
    let y = c.args.y + shift edge in
    let first : c.from-first.result ≡ shift edge = c.from-first.ensures ∙ c.shift-2.ensures in
    let within : c.from-first.result ≤ length c.args.entries.now =
    omega (arith, first, c.requires.width) in
    let many : length c.pick_line.new.entries ≡ cells.width = search rules in
    let next : c.args.y + 1 + shift edge ≡ c.args.y + shift edge + 1 = omega arith in
    let before = IsLineBefore-marked edge cells c.args.y c.args.before.now c.mark_line.new.line
    c.requires.bitmap c.requires.row c.mark_line.ensures.len c.mark_line.ensures.marked
    c.requires.before in
    let inner = IsRowOfTable-between (capped edge cells) y c.mark_line.new.line c.args.behind.now
    c.pick_line.new.entries (rw next at before) (rw next at c.requires.behind) many
    (search rules) in
    IsRowOfTable-framed edge cells y c.pick_line.new.entries _ c.mark_sides.new.row
    c.requires.bitmap (omega (arith, c.requires.row)) inner
    (rw c.shift.ensures at c.mark_sides.ensures.marked) c.mark_sides.ensures.len
    (search rules) (λ x column. written_inside c.args.entries.now c.pick_line.new.entries _
    c.from-first.result (shift edge) x within first (omega (arith, many, column)))
