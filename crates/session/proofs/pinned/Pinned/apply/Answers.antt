-- The pin stays.
use Rattle.std.proofs.Common.{refl}
use mathlib.Core.Logic.{inr}
use Rattle.session.proofs.CommandLemmas.{applied_still}
use Rattle.session.proofs.PinLemmas.{bitmap_stays, pin_stays}
use Rattle.session.proofs.pinned.Pinned.apply.Goals as goal

pub apply-requires : goal.apply-requires
apply-requires g c = inr (c.self.inside.version, c.self.invariant.copying.held)

pub invariant_of-self : goal.invariant_of-self
invariant_of-self g c =
    let still = applied_still _ _ _ _ _ _ _ c.apply.ensures.applied in
    pin_stays _ _ _ _ _ _ c.self.invariant c.apply.ensures.applied.grows still.announced still.holds

pub returns-clause-applied : goal.returns-clause-applied
returns-clause-applied g c =
    rw (← c.self.view_is) record {
      applied = c.apply.ensures.applied;
      version = refl;
      bitmap = bitmap_stays _ _ c.apply.new.seat _ _ _ c.self.invariant
          c.apply.ensures.applied.grows;
    }
