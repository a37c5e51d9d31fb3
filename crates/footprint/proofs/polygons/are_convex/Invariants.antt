-- Those before this one are convex.
use Rattle.std.proofs.Common.{◌≡◌, true}
use Rattle.footprint.specs.Convex.{are_convex}
use Rattle.footprint.proofs.polygons.are_convex.Given as goal

abbrev pub invariant-polygons : goal.invariant-polygons
invariant-polygons l = are_convex l.corners l.count l.k ≡ true
