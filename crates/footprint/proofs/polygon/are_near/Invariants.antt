-- What is left of the ring decides.
use Rattle.std.proofs.Common.{◌≡◌, drop}
use Rattle.std.specs.List.{list_all}
use Rattle.footprint.specs.Convex.{is_near}
use Rattle.footprint.proofs.polygon.are_near.Given as goal

abbrev pub invariant-corners : goal.invariant-corners
invariant-corners l = list_all is_near (drop l.corner-index l.ring) ≡ list_all is_near l.ring
