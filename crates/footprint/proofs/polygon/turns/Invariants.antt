-- What is left of the ring decides.
use Rattle.std.proofs.Common.{◌≡◌, drop}
use Rattle.footprint.specs.Convex.{before_last, turns_from}
use Rattle.footprint.specs.Polygon.{IsNear, last_of}
use Rattle.footprint.proofs.polygon.turns.Given as goal

abbrev pub invariant-corners : goal.invariant-corners
invariant-corners l = record {
  near : IsNear l.from;
  next : IsNear l.at;
  rest : turns_from l.from l.at (drop l.to-index l.ring)
      ≡ turns_from (before_last l.ring) (last_of l.ring) l.ring;
}
