-- A reader's word stands after NOW.
use Rattle.events.proofs.Names.{refl, pin_at}
use Rattle.events.proofs.plan.Plan.pin_at.Goals as goal

pub returns : goal.returns
unfolding pin_at
returns c = refl
