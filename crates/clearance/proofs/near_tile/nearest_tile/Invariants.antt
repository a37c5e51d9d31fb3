-- The nearest tile so far is one of the map's.
use Rattle.std.proofs.Common.{◌+◌, ◌-◌, ◌/◌, ◌≤◌, IfSome}
use Rattle.clearance.specs.Seekers.{IsPlaceIn}
use Rattle.clearance.proofs.near_tile.nearest_tile.Given as goal

abbrev pub invariant-bands : goal.invariant-bands
invariant-bands g l = record {
  above : l.left.above ≤ l.start.y / 64;
  below : l.start.y / 64 ≤ l.left.below;
  few : l.left.below ≤ 64;
  place : IfSome l.nearest.place (IsPlaceIn l.across);
}

abbrev pub decreases-bands : goal.decreases-bands
decreases-bands g l = l.left.above + (64 - l.left.below)
