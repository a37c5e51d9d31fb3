-- Steps of the keeper that are done one after another are one run.
use Rattle.std.proofs.Common.{ℕ, ◌+◌, [], ◌∷◌, ◌++◌, Result}
use Rattle.std.specs.Prelude.{replicate}
use Rattle.std.proofs.lemmas.List.{replicate_more}
use Rattle.events.specs.declared.event.Event.TheVariants as events
use Rattle.events.specs.declared.event.NotEnabled.{NotEnabled}
use Rattle.events.specs.declared.event.StepReply.{StepReply}
use Rattle.events.specs.Runs.{SafeStep}
use Rattle.events.specs.Views.{State}
use Rattle.steps.specs.Steps.{Keeps}
use Rattle.map_core.proofs.RunLemmas.{run-push}

-- a run of steps of the keeper, and one Keep event after it, are a run of one more step
pub Keeps-more : (count : ℕ) (old mid new : State) (first second : Result StepReply NotEnabled)
    → Keeps count old first mid → SafeStep mid events.Keep second new
    → Keeps (count + 1) old second new
Keeps-more count old mid new first second kept step = record {
  before = kept.before ++ first ∷ [];
  run = rw (← replicate_more count events.Keep)
      (run-push old mid new (replicate count events.Keep)
      (kept.before ++ first ∷ []) events.Keep second kept.run step);
}
