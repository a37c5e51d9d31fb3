-- The tiles before this one are counted.
use Rattle.events.proofs.Names.{◌≡◌, ◌+◌, ◌≤◌, length, drop, own_list}
use Rattle.events.proofs.tiles.count_own.Given as goal

abbrev pub invariant-loop-block : goal.invariant-loop-block
invariant-loop-block l =
    (l.count + length (own_list (drop l.block-index l.own)) ≡ length (own_list l.own))
    × (l.count ≤ l.block-index)
