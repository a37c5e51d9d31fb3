-- The blocks before this one are freed, or they stay.
use Rattle.events.proofs.Names.{◌≡◌, deque_capacity, members}
use Rattle.events.proofs.accounts.GiveBack.{IsSwept}
use Rattle.events.proofs.blocks.give_back_retired.Given as goal

abbrev pub invariant-loop-block : goal.invariant-loop-block
invariant-loop-block l =
    IsSwept (members l.kept.slots) l.fn.retired.items l.fn.free.items
    (deque_capacity l.fn.free) l.block-index l.free.items
    × (deque_capacity l.free ≡ deque_capacity l.fn.free)
