-- The obstacles of the tiles left of the start's, from this one on, have been met.
use Rattle.std.proofs.Common.{◌≡◌, ℕ, ◌/◌, ◌<◌, ◌≤◌}
use Rattle.clearance.specs.Seekers.{IsOnward}
use Rattle.clearance.specs.Spots.{IsInBand}
use Rattle.clearance.proofs.around.search_left.Given as goal

abbrev pub invariant-left : goal.invariant-left
invariant-left g l = record {
  rows : l.rows ≡ l.fn.rows;
  onward : IsOnward g.S.Seeker.aim (g.R.Rows.cells l.fn.rows) l.fn.seeker l.seeker;
  own : l.after ≤ (g.S.Seeker.aim.begins l.fn.seeker).x / 64;
  few : l.after ≤ 64;
  met : (a b : ℕ) → IsInBand (g.R.Rows.cells l.fn.rows) l.band a b → l.after ≤ a / 64
      → a / 64 < (g.S.Seeker.aim.begins l.fn.seeker).x / 64 → g.S.Seeker.aim.settles l.seeker a b;
}

abbrev pub decreases-left : goal.decreases-left
decreases-left g l = l.after
