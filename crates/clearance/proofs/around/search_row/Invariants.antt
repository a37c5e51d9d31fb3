-- What is met stays met.
use Rattle.std.proofs.Common.{◌≡◌}
use Rattle.clearance.specs.Seekers.{IsOnward}
use Rattle.clearance.proofs.around.search_row.Given as goal

abbrev pub invariant-row : goal.invariant-row
invariant-row g l = record {
  rows : l.rows ≡ l.fn.rows;
  onward : IsOnward g.S.Seeker.aim (g.R.Rows.cells l.fn.rows) l.fn.seeker l.seeker;
}
