-- The answers so far are those of the cells so far.
use Rattle.libclearmap.proofs.Names.{◌≡◌, ℕ, ◌<◌, ◌≤◌, length, get_or}
use Rattle.metric.specs.Kind.{distance_of}
use Rattle.bits.specs.Edges.{IsBlocked}
use Rattle.clearance.specs.Firsts.{cell_of_list}
use Rattle.libclearmap.specs.Kept.{kept_nothing}
use Rattle.libclearmap.specs.Many.{MeansNear}
use Rattle.libclearmap.proofs.many.write_nears.Given as goal

abbrev pub invariant-cells : goal.invariant-cells
invariant-cells g l = record {
  rows : l.rows ≡ l.fn.rows;
  long : length l.nears ≡ length l.fn.nears;
  each : (k : ℕ) → k < l.i → MeansNear (distance_of l.kind)
      (IsBlocked (g.R.Rows.cells l.fn.rows) l.edge) (cell_of_list l.cells k)
      (get_or l.nears k kept_nothing);
  rest : (k : ℕ) → length l.cells ≤ k
      → get_or l.nears k kept_nothing ≡ get_or l.fn.nears k kept_nothing;
}
