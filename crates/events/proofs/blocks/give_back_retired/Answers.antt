-- The blocks that stay are those that a kept version maps.
use Rattle.std.proofs.Common.{rules}
use Rattle.std.proofs.lemmas.Fn.{filter_same}
use Rattle.events.proofs.blocks.give_back_retired.Goals as goal

pub returns-clause-retired : goal.returns-clause-retired
returns-clause-retired c =
    filter_same _ _ _ (λ x b q called. search rules) _ _ c.retain.ensures.filtered
