-- One that isn't convex leaves not all convex.
use Rattle.std.proofs.Common.{sym, ap, ◌∙◌}
use Rattle.footprint.specs.Convex.{is_convex}
use Rattle.footprint.proofs.Convexes.{not_convex}
use Rattle.footprint.proofs.polygons.are_convex.Goals as goal

pub returns-then-not-is_convex : goal.returns-then-not-is_convex
returns-then-not-is_convex c = sym (not_convex c.args.corners.now c.args.count c.polygons.k _
    (sym (c.if-not-is_convex.ensures ∙ ap is_convex c.polygon_at.ensures.corners))
    c.polygons-test.true)
