-- The distances so far are cut, and the others are as they were.
use Rattle.libclearmap.proofs.Names.{◌≡◌, ℕ, ◌<◌, ◌≤◌, get_or, length, min}
use Rattle.libclearmap.specs.Costs.{no_distance}
use Rattle.libclearmap.proofs.costs.cut.Given as goal

abbrev pub invariant-cells : goal.invariant-cells
invariant-cells l = record {
  long : length l.line ≡ length l.fn.line;
  done : (k : ℕ) → k < l.x → (get_or l.line k no_distance).dist
      ≡ min (get_or l.fn.line k no_distance).dist l.most;
  few : (k : ℕ) → k < l.x → (get_or l.fn.line k no_distance).dist ≤ 4294967295;
  ahead : (k : ℕ) → l.x ≤ k → get_or l.line k no_distance ≡ get_or l.fn.line k no_distance;
}
