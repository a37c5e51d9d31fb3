-- Another session is given up.
use Rattle.std.proofs.Common.{arith}
use Rattle.session.proofs.ClosingLemmas.{counted_next, all_given_up}
use Rattle.session.proofs.sessions.give_up.Goals as goal

pub loop-session-preserved : goal.loop-session-preserved
loop-session-preserved g c =
    counted_next c.loop-session.closing _ _ _ _ _ c.in-Some.session _ c.loop-session.invariant
    c.in-Some.ensures.items c.into_seat.ensures.seat c.give_up.ensures.counts
    c.give_up.ensures.began c.give_up.ensures.own

pub returns-clause-sessions : goal.returns-clause-sessions
returns-clause-sessions g c =
    all_given_up _ _ _ _ c.loop-session.invariant
    (omega (arith, c.loop-session.sessions.ok, c.in_default.ensures.cases.0))
