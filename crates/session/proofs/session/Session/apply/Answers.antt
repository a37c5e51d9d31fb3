-- The session has announced nothing still.
use mathlib.Core.Logic.{inl}
use Rattle.session.proofs.CommandLemmas.{applied_still, session_holds}
use Rattle.session.proofs.session.Session.apply.Goals as goal

pub apply-requires : goal.apply-requires
apply-requires g c = inl c.self.invariant.quiet

pub invariant_of-self : goal.invariant_of-self
invariant_of-self g c =
    session_holds _ _ _ _ c.self.invariant (applied_still _ _ _ _ _ _ _ c.apply.ensures.applied)
