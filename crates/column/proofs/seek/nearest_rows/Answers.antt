-- The map's own columns are searched, and the frame's are set.
use Rattle.std.proofs.Common.{◌≡◌, ◌≤◌, ◌∙◌, length, arith, rules}
use Rattle.metric.specs.Edge.{shift}
use Rattle.column.proofs.Caps.{IsRowOfTable-framed, written_inside}
use Rattle.column.proofs.seek.nearest_rows.Goals as goal

pub returns : goal.returns
returns c =
    let first : c.from-first.result ≡ shift c.args.edge = c.from-first.ensures ∙ c.shift.ensures in
    let within : c.from-first.result ≤ length c.args.entries.now =
    omega (arith, first, c.requires.width) in
    let many = c.look_around.ensures.as_many in
    IsRowOfTable-framed c.args.edge c.args.bitmap.now c.args.y c.look_around.new.entries _
    c.mark_sides.new.row c.width.ensures.bitmap c.requires.row c.look_around.ensures
    c.mark_sides.ensures.marked c.mark_sides.ensures.len
    (search rules) (λ x column. written_inside c.args.entries.now c.look_around.new.entries _
    c.from-first.result (shift c.args.edge) x within first (omega (arith, many, column)))
