-- The rows nearer than this many have been met.
use Rattle.std.proofs.Common.{◌≡◌, ℕ, ◌<◌}
use Rattle.clearance.specs.Search.{row_gap}
use Rattle.clearance.specs.Seekers.{AreFarColumns, IsInPart, IsOnward}
use Rattle.clearance.proofs.part.Part.see_pairs.Given as goal

abbrev pub invariant-pairs : goal.invariant-pairs
invariant-pairs g l = record {
  rows : l.rows ≡ l.fn.rows;
  onward : IsOnward g.S.Seeker.aim (g.R.Rows.cells l.fn.rows) l.fn.seeker l.seeker;
  columns : AreFarColumns l.self.tile l.far l.rect l.gap (g.S.Seeker.aim.settles l.seeker);
  met : (a b : ℕ) → IsInPart (g.R.Rows.cells l.fn.rows) l.self a b → 0 < row_gap l.rect b
      → row_gap l.rect b < l.gap → g.S.Seeker.aim.settles l.seeker a b;
}
