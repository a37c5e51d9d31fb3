-- The obstacles of all bands but those that are left have been met.
use Rattle.std.proofs.Common.{◌≡◌, ℕ, ◌+◌, ◌-◌, ◌/◌, ◌≤◌, ◌⊎◌}
use Rattle.bits.specs.Cells.{IsObstacle}
use Rattle.bits.specs.Bands.{IsBanded}
use Rattle.clearance.specs.Seekers.{IsLeft, IsOnward}
use Rattle.clearance.proofs.around.search_others.Given as goal

abbrev pub invariant-outwards : goal.invariant-outwards
invariant-outwards g l = record {
  rows : l.rows ≡ l.fn.rows;
  onward : IsOnward g.S.Seeker.aim (g.R.Rows.cells l.fn.rows) l.fn.seeker l.seeker;
  banded : IsBanded (g.R.Rows.cells l.fn.rows) l.left.marked;
  above : l.left.above ≤ (g.S.Seeker.aim.begins l.fn.seeker).y / 64;
  below : (g.S.Seeker.aim.begins l.fn.seeker).y / 64 ≤ l.left.below;
  few : l.left.below ≤ 64;
  met : (a b : ℕ) → IsObstacle (g.R.Rows.cells l.fn.rows) a b
      → IsLeft l.left.above l.left.below (b / 64) ⊎ g.S.Seeker.aim.settles l.seeker a b;
}

abbrev pub decreases-outwards : goal.decreases-outwards
decreases-outwards g l = l.left.above + (64 - l.left.below)
