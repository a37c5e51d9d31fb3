-- The line is the row's part of what is told.
use Rattle.std.proofs.Common.{ℕ, ◌-◌, ◌<◌, ◌∙◌, List, Option, map, arith}
use Rattle.metric.specs.declared.spot.Spot.{Spot}
use Rattle.field.specs.Obstacles.{Obstacles, in_strips}
use Rattle.field.proofs.ObstacleLemmas.{line_told}
use Rattle.field.proofs.StripLemmas.{AreRows-strips, line_in_strips}
use Rattle.field.proofs.obstacle_table.ObstacleTable.fill_row.Goals as goal

pub returns : goal.returns
returns g c =
    let inside = c.self.inside.strips in
    let strips : List (List (Option Spot)) = map (λ strip. strip.items) inside.all.items in
    let table : Obstacles = in_strips inside.width inside.y0 inside.y1 inside.height strips in
    let from = rw (← c.self.view_is) at c.requires.from in
    let to = rw (← c.self.view_is) at c.requires.to in
    let line = c.line-cells.ensures.line
    ∙ line_in_strips inside.width inside.y0 inside.y1 inside.height strips
    (c.args.y - inside.y0) c.self.invariant (omega (arith, from, to)) in
    let len = c.line-cells.ensures.len in
    let width = rw (← c.self.view_is) at c.requires.width in
    rw (← c.self.view_is)
    (line_told g.M.Metric.distance table c.args.y _ c.loop-x.nears
    (AreRows-strips inside.width inside.y0 inside.y1 inside.height strips c.self.invariant) from to
    (c.loop-x.auto.nears ∙ width) line
    (λ (x : ℕ) (column : x < inside.width). c.loop-x.invariant.seen x
    (omega (arith, column, len))))
