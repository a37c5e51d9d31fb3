-- The distances so far have their costs.
use Rattle.libclearmap.proofs.Names.{◌≡◌, ℕ, ◌<◌, get_or, length}
use Rattle.libclearmap.specs.Costs.{cost_of, no_distance}
use Rattle.libclearmap.specs.Kept.{distance_kept}
use Rattle.libclearmap.proofs.costs.write_by_long.Given as goal

abbrev pub invariant-cells : goal.invariant-cells
invariant-cells l = record {
  long : length l.costs ≡ length l.fn.costs;
  told : (k : ℕ) → k < l.x → get_or l.costs k 0
      ≡ cost_of l.table (distance_kept (get_or l.line k no_distance).dist);
}
