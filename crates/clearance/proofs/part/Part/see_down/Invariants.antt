-- The rows from the first one to this one have been met.
use Rattle.std.proofs.Common.{◌≡◌, ℕ, ◌<◌, ◌≤◌}
use Rattle.clearance.specs.Search.{row_gap}
use Rattle.clearance.specs.Seekers.{AreFarColumns, IsInPart, IsOnward}
use Rattle.clearance.proofs.part.Part.see_down.Given as goal

abbrev pub invariant-down : goal.invariant-down
invariant-down g l = record {
  rows : l.rows ≡ l.fn.rows;
  onward : IsOnward g.S.Seeker.aim (g.R.Rows.cells l.fn.rows) l.fn.seeker l.seeker;
  columns : AreFarColumns l.self.tile l.far l.rect (row_gap l.rect l.y)
      (g.S.Seeker.aim.settles l.seeker);
  met : (a b : ℕ) → IsInPart (g.R.Rows.cells l.fn.rows) l.self a b → l.from ≤ b → b < l.y
      → g.S.Seeker.aim.settles l.seeker a b;
}
