-- What the table tells of the cell is its nearest obstacle, measured from it.
use Rattle.std.proofs.Common.{◌≡◌, ◌+◌, ◌-◌, ◌*◌, List, None, Option, ap, arith, map}
use Rattle.std.proofs.Common.{slice_index_or, sym, ◌∙◌}
use Rattle.std.proofs.lemmas.List.{get_or_default}
use Rattle.metric.specs.declared.spot.Spot.{Spot}
use Rattle.field.specs.Obstacles.{Obstacles, in_strips, seen_from}
use Rattle.field.proofs.ObstacleLemmas.{line_at, told_here}
use Rattle.field.proofs.StripLemmas.{AreRows-strips, line_in_strips}
use Rattle.field.proofs.obstacle_table.ObstacleTable.near.Goals as goal

pub returns : goal.returns
returns g c =
    let inside = c.self.inside.strips in
    let strips : List (List (Option Spot)) = map (λ strip. strip.items) inside.all.items in
    let table : Obstacles = in_strips inside.width inside.y0 inside.y1 inside.height strips in
    let from = rw (← c.self.view_is) at c.requires.from in
    let to = rw (← c.self.view_is) at c.requires.to in
    let line = c.line.ensures.line ∙ line_in_strips inside.width inside.y0 inside.y1 inside.height
    strips (c.args.y - inside.y0) c.self.invariant (omega (arith, from, to)) in
    let len = c.line.ensures.len in
    let rows = AreRows-strips inside.width inside.y0 inside.y1 inside.height strips c.self.invariant
    in
    let column = rw (← c.self.view_is) at c.requires.column in
    let read : c.index-line-from.result ≡ slice_index_or c.line.result.now c.args.x
    c.index-line-from.result = rw c.from.ensures at c.index-line-from.is in
    let kept : c.index-line-from.result ≡ slice_index_or table.cells
    ((c.args.y - table.y0) * table.width + c.args.x) None =
    read ∙ get_or_default c.line.result.now c.args.x c.index-line-from.result None
    (omega (arith, column, len))
    ∙ rw line (line_at table.cells ((c.args.y - table.y0) * table.width) table.width c.args.x
    None column) in
    rw (← c.self.view_is)
    (c.near_from.ensures ∙ (ap (seen_from g.M.Metric.distance c.args.x c.args.y) kept
    ∙ sym (told_here g.M.Metric.distance table c.args.x c.args.y rows column from to)))
