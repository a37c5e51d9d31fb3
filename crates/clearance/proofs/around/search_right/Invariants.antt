-- The obstacles of the tiles from the start's to this one have been met.
use Rattle.std.proofs.Common.{◌≡◌, ℕ, ◌-◌, ◌/◌, ◌<◌, ◌≤◌}
use Rattle.clearance.specs.Seekers.{IsOnward}
use Rattle.clearance.specs.Spots.{IsInBand}
use Rattle.clearance.proofs.around.search_right.Given as goal

abbrev pub invariant-right : goal.invariant-right
invariant-right g l = record {
  rows : l.rows ≡ l.fn.rows;
  onward : IsOnward g.S.Seeker.aim (g.R.Rows.cells l.fn.rows) l.fn.seeker l.seeker;
  own : (g.S.Seeker.aim.begins l.fn.seeker).x / 64 ≤ l.tile;
  few : l.tile ≤ 64;
  met : (a b : ℕ) → IsInBand (g.R.Rows.cells l.fn.rows) l.band a b
      → (g.S.Seeker.aim.begins l.fn.seeker).x / 64 ≤ a / 64 → a / 64 < l.tile
      → g.S.Seeker.aim.settles l.seeker a b;
}

abbrev pub decreases-right : goal.decreases-right
decreases-right g l = 64 - l.tile
