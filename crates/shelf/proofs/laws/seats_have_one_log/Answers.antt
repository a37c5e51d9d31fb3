-- All seats of a table have one legal log, by the lemma on any table.
use Rattle.shelf.proofs.logs.OneLog.{one_log}
use Rattle.shelf.proofs.laws.seats_have_one_log.Goals as goal

pub returns : goal.returns
returns c = one_log
