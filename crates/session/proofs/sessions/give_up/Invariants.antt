-- The sessions that were given up are counted, and the others are left.
use Rattle.std.proofs.Common.{length}
use Rattle.session.proofs.ClosingLemmas.{IsCounted}
use Rattle.session.proofs.sessions.give_up.Given as goal

abbrev pub invariant-loop-session : goal.invariant-loop-session
invariant-loop-session g l =
    IsCounted l.closing l.sessions.items l.initial.closing l.initial.sessions.items

abbrev pub decreases-loop-session : goal.decreases-loop-session
decreases-loop-session g l = length l.sessions.items
