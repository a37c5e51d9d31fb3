-- Each step of a seat is the core's event of its kind, by the lemma on any table.
use Rattle.shelf.proofs.steps.EventSteps.{steps_are_events}
use Rattle.shelf.proofs.laws.seats_do_events.Goals as goal

pub returns : goal.returns
returns c = steps_are_events
