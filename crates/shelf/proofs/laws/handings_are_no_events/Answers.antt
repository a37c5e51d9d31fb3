-- Handings are no events.
use Rattle.shelf.proofs.steps.HandingSteps.{handings_are_none}
use Rattle.shelf.proofs.laws.handings_are_no_events.Goals as goal

pub returns : goal.returns
returns c = handings_are_none
