-- The bytes so far, and what comes after them.
use Rattle.std.proofs.Common.{◌≡◌, ℕ, ◌≤◌, length}
use Rattle.std.specs.Prelude.{slice_index}
use Rattle.libclearmap.specs.Footprints.{AreSaid}
use Rattle.libclearmap.proofs.hits_many.write_hits.Given as goal

abbrev pub invariant-polygons : goal.invariant-polygons
invariant-polygons g l = record {
  rows : l.rows ≡ l.fn.rows;
  long : length l.bytes ≡ length l.fn.bytes;
  said : AreSaid (g.R.Rows.cells l.fn.rows) l.edge l.corners l.count l.k l.bytes;
  rest : (k : ℕ) → l.k ≤ k → slice_index l.bytes k ≡ slice_index l.fn.bytes k;
}
