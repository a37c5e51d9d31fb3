-- Two proofs of the rule for one table have one keeper's view, by the lemma on any table.
use Rattle.shelf.proofs.logs.Schedules.{one_keeper_view}
use Rattle.shelf.proofs.laws.rule_has_one_keeper.Goals as goal

pub returns : goal.returns
returns c = one_keeper_view
