-- The places so far are looked up.
use Rattle.libclearmap.proofs.Names.{◌≡◌, ℕ, ◌<◌, get_or, length}
use Rattle.libclearmap.specs.Costs.{no_distance}
use Rattle.libclearmap.proofs.costs.look_up.Given as goal

abbrev pub invariant-cells : goal.invariant-cells
invariant-cells l = record {
  long : length l.costs ≡ length l.fn.costs;
  told : (k : ℕ) → k < l.x
      → get_or l.costs k 0 ≡ get_or l.table (get_or l.line k no_distance).dist 0;
}
