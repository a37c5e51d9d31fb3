-- The positions before this one have the blocks that they need.
use Rattle.events.proofs.Names.{◌≡◌, deque_capacity, differing}
use Rattle.events.proofs.accounts.TakeBlocks.{IsTaken}
use Rattle.events.proofs.blocks.take_blocks.Given as goal

abbrev pub invariant-loop-position : goal.invariant-loop-position
invariant-loop-position l =
    IsTaken (differing l.old l.new) l.fn.own l.fn.free.items l.position l.own l.free.items
    × (deque_capacity l.free ≡ deque_capacity l.fn.free)
