-- A schedule of steps and handings is one run of the core, by the lemma on any table.
use Rattle.shelf.proofs.logs.Schedules.{one_run}
use Rattle.shelf.proofs.laws.schedules_are_runs.Goals as goal

pub returns : goal.returns
returns c = one_run
