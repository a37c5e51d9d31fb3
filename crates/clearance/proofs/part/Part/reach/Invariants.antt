-- Rows from the upper bound on are too far.
use Rattle.std.proofs.Common.{ℕ, ◌-◌, ◌<◌, ◌≤◌}
use Rattle.clearance.specs.Search.{column_gap, row_gap}
use Rattle.clearance.proofs.part.Part.reach.Given as goal

abbrev pub invariant-halves : goal.invariant-halves
invariant-halves g l = record {
  few : l.high ≤ l.last;
  far : (a b : ℕ) → a < 4096 → b < 4096
      → l.self.columns ≤ column_gap (g.S.Seeker.aim.from l.seeker) a → l.self.x ≤ a
      → l.high ≤ row_gap (g.S.Seeker.aim.from l.seeker) b → g.S.Seeker.aim.settles l.seeker a b;
}

abbrev pub decreases-halves : goal.decreases-halves
decreases-halves g l = l.high - l.low
