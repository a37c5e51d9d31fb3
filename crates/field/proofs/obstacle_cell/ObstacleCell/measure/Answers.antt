-- A spot that is kept is measured by its distance.
use Rattle.std.proofs.Common.{◌∙◌, rules, refl, ◌≡◌, ◌-ℤ◌, pos, negsuc, unsigned_abs}
use Rattle.field.proofs.ObstacleLemmas.{IsMeasured-kept, apart_is}
use Rattle.field.proofs.obstacle_cell.ObstacleCell.measure.Goals as goal

pub returns-then-self : goal.returns-then-self
returns-then-self g c =
    let inside = c.self.inside in
    let across : c.abs_diff-dx.result ≡ unsigned_abs (pos c.args.x -ℤ inside.x) = search rules in
    let down : c.abs_diff-dy.result ≡ unsigned_abs (pos c.args.y -ℤ inside.y) = search rules in
    rw (← c.self.view_is)
    (IsMeasured-kept g.M.Metric.distance c.args.x c.args.y inside.x inside.y c.abs_diff-dx.result
    c.abs_diff-dy.result c.of-dist.result c.self.invariant
    (λ (same : inside.x ≡ negsuc 1). c.if-self.true (rw same refl))
    (across ∙ apart_is c.args.x inside.x) (down ∙ apart_is c.args.y inside.y) (search rules)
    (search rules) c.of-dist.ensures)
