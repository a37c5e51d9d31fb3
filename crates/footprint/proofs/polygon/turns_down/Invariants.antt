-- Those so far and those of what is left are all.
use Rattle.std.proofs.Common.{◌≡◌, ◌+◌, ◌≤◌, drop}
use Rattle.footprint.specs.Convex.{before_last, turns_down_from}
use Rattle.footprint.specs.Polygon.{last_of}
use Rattle.footprint.proofs.polygon.turns_down.Given as goal

abbrev pub invariant-corners : goal.invariant-corners
invariant-corners l = record {
  few : l.count ≤ l.to-index;
  rest : l.count + turns_down_from l.from l.at (drop l.to-index l.ring)
      ≡ turns_down_from (before_last l.ring) (last_of l.ring) l.ring;
}
