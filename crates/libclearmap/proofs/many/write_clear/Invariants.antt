-- The bytes so far are those of the cells so far.
use Rattle.libclearmap.proofs.Names.{◌≡◌, ℕ, ◌<◌, ◌≤◌, length, get_or}
use Rattle.metric.specs.Kind.{distance_of}
use Rattle.bits.specs.Edges.{IsBlocked}
use Rattle.clearance.specs.Firsts.{cell_of_list}
use Rattle.libclearmap.specs.Many.{SaysClear}
use Rattle.libclearmap.proofs.many.write_clear.Given as goal

abbrev pub invariant-cells : goal.invariant-cells
invariant-cells g l = record {
  rows : l.rows ≡ l.fn.rows;
  long : length l.clear ≡ length l.fn.clear;
  each : (k : ℕ) → k < l.i → SaysClear (distance_of l.kind)
      (IsBlocked (g.R.Rows.cells l.fn.rows) l.edge) (cell_of_list l.cells k) l.d
      (get_or l.clear k 0);
  rest : (k : ℕ) → length l.cells ≤ k → get_or l.clear k 0 ≡ get_or l.fn.clear k 0;
}
