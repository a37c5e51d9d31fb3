-- No more columns are counted than were seen.
use Rattle.std.proofs.Common.{◌≤◌}
use Rattle.envelope.proofs.beside.steps_for.Given as goal

abbrev pub invariant-columns : goal.invariant-columns
invariant-columns l = l.without ≤ l.column
