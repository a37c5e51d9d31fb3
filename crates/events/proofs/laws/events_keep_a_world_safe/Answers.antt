-- Each event keeps what holds of a world, and that gives the theorem.
use Rattle.events.proofs.steps.DoesLemmas.{does-keeps}
use Rattle.events.proofs.invariants.SafeLemmas.{IsSafe-whole}
use Rattle.events.proofs.laws.events_keep_a_world_safe.Goals as goal

pub returns : goal.returns
returns c = λ w e o whole is. let keeps = does-keeps w e o whole is in
    (keeps.whole, IsSafe-whole o.state keeps.whole, keeps.spares)
