-- The bits of the rows before this one are joined.
use Rattle.std.proofs.Common.{◌≡◌, ℕ, ◌%◌, ◌<◌}
use Rattle.std.specs.Int.{bit_at}
use Rattle.clearance.specs.Seekers.{IsInPart}
use Rattle.clearance.proofs.part.Part.joined.Given as goal

abbrev pub invariant-joined : goal.invariant-joined
invariant-joined g l = record {
  rows : l.rows ≡ l.fn.rows;
  joined : (a b : ℕ) → IsInPart (g.R.Rows.cells l.fn.rows) l.self a b → b < l.y
      → bit_at l.all (a % 64) ≡ 1;
}
