-- The blocks of the positions before this one are freed.
use Rattle.events.proofs.Names.{◌≡◌, deque_capacity}
use Rattle.events.proofs.accounts.GiveBack.{IsGivenBack}
use Rattle.events.proofs.blocks.give_back_own.Given as goal

abbrev pub invariant-loop-block : goal.invariant-loop-block
invariant-loop-block l =
    IsGivenBack l.fn.own l.fn.free.items (deque_capacity l.fn.free) l.block-index l.own l.free.items
    × (deque_capacity l.free ≡ deque_capacity l.fn.free)
