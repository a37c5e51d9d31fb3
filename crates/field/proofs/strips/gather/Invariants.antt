-- The strips that were taken are the first ones found.
use Rattle.std.proofs.Common.{◌≡◌, ◌++◌, ◌≤◌, map, Ok, length}
use Rattle.std.specs.Vec.{vec_capacity}
use Rattle.field.proofs.strips.gather.Given as goal

abbrev pub invariant-strips : goal.invariant-strips
invariant-strips g l =
    (goal.iterator-strips g).can_next l.cells-iterator
    × (goal.iterator-strips g).is_finite l.cells-iterator
    × (l.yielded ++ l.cells-iterator.rest.items ≡ l.fn.found.items)
    × (map (λ strip. Ok strip) l.strips.items ≡ l.yielded)
    × (length l.fn.found.items ≤ vec_capacity l.strips)
