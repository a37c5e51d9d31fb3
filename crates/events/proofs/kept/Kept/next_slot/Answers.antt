-- The first slot without a version is the least free one, and there is one.
use Rattle.std.proofs.Common.{arith}
use Rattle.events.proofs.logs.KeptLemmas.{first_free-found, first_free-none, first_free-le}
use Rattle.events.proofs.kept.Kept.next_slot.Goals as goal

pub returns-then-kept-eq0 : goal.returns-then-kept-eq0
returns-then-kept-eq0 c =
    first_free-found _ _ c.loop-slot.invariant (omega arith) c.if-kept-eq0.true

pub unreachable-requires : goal.unreachable-requires
unreachable-requires c =
    let all = first_free-none c.args.self.now.slots (λ j h. c.loop-slot.invariant j (omega arith)) in
    omega (arith, all, first_free-le c.args.self.now.slots)
