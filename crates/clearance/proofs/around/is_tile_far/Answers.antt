-- The tiles past this one lie as many columns outside, and the band as many rows.
use Rattle.std.proofs.Common.{◌≤◌, inl, inr, arith}
use Rattle.clearance.specs.Search.{IsInRect, column_gap, row_gap}
use Rattle.clearance.proofs.SeekerSteps.{IsBeyond-cell, apart_left, apart_right}
use Rattle.clearance.proofs.around.is_tile_far.Goals as goal

pub returns : goal.returns
returns g c = λ yes a b column here past right.
    let s = g.S.Seeker.aim in
    let rect = c.rect-rect.result in
    let start = s.begins c.args.seeker.now in
    let inside : IsInRect rect start.x start.y =
    rw c.rect-rect.ensures.rect c.rect-rect.ensures.start in
    let columns = c.columns_apart-columns in
    let apart : columns.result ≤ column_gap rect a = elim past [
      | inl after ↦ apart_right rect c.args.tile columns.result start.x a columns.ensures.apart
          inside.left after.0 after.1
      | inr before ↦ apart_left rect c.args.tile columns.result start.x a columns.ensures.apart
          inside.right before.0 before.1
    ] in
    let away : c.rows_apart-gap.result ≤ row_gap rect b = c.rows_apart-gap.ensures.apart b here in
    c.is_far.ensures yes a b (rw c.of.ensures (
    IsBeyond-cell g.M.Metric.distance g.met.M.Metric.grows g.met.M.Metric.stays_nearer
    (s.from c.args.seeker.now) columns.result _ c.rows_apart-gap.result a b column (omega arith)
    (rw c.rect-rect.ensures.rect at apart) right (rw c.rect-rect.ensures.rect at away)))
