-- A table that keeps the rule is a state of the core, by the lemma on any table.
use Rattle.shelf.proofs.logs.OneCore.{one_core}
use Rattle.shelf.proofs.laws.rule_is_a_state.Goals as goal

pub returns : goal.returns
returns c = one_core
