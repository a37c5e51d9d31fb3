-- The places are those of the costs.
use Rattle.libclearmap.proofs.Names.{◌∙◌, arith}
use Rattle.std.specs.Prelude.{slice_index_or}
use Rattle.libclearmap.specs.Costs.{no_distance}
use Rattle.libclearmap.proofs.CostLemmas.{cost_cut}
use Rattle.libclearmap.proofs.costs.write_costs.Goals as goal

pub look_up-requires-clause-places : goal.look_up-requires-clause-places
look_up-requires-clause-places c = λ x within.
    let cut = c.cut.ensures.cut x (omega (arith, within, c.cut.ensures.len)) in
    omega (arith, cut, c.requires.some)

pub returns-clause-costs : goal.returns-clause-costs
returns-clause-costs c = λ x within.
    c.look_up.ensures.costs x (omega (arith, within, c.cut.ensures.len))
    ∙ cost_cut c.args.table.now (slice_index_or c.args.line.now x no_distance).dist
    (slice_index_or c.cut.new.line x no_distance).dist c.requires.some (omega arith)
    (c.cut.ensures.few x within) (c.cut.ensures.cut x within)
