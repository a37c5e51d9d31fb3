-- No cell so far is outside.
use Rattle.libclearmap.proofs.Names.{◌≡◌, ℕ, ◌<◌, false}
use Rattle.clearance.specs.Firsts.{cell_of_list}
use Rattle.clearance.specs.Paths.{is_outside}
use Rattle.libclearmap.proofs.many.first_outside.Given as goal

abbrev pub invariant-cells : goal.invariant-cells
invariant-cells g l =
    (k : ℕ) → k < l.i → is_outside (g.R.Rows.cells l.rows) (cell_of_list l.cells k) ≡ false
