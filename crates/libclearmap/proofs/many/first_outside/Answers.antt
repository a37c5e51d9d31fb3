-- Where no cell is outside, all pass no test for one.
use Rattle.libclearmap.proofs.Names.{◌≡◌, false, arith}
use Rattle.std.proofs.lemmas.List.Elements.{All-from_get_or}
use Rattle.std.proofs.lemmas.List.Folds.{list_any_none}
use Rattle.clearance.specs.Firsts.{origin}
use Rattle.clearance.specs.Paths.{is_outside}
use Rattle.libclearmap.proofs.many.first_outside.Goals as goal

pub returns-clause-none : goal.returns-clause-none
returns-clause-none g c = λ none.
    let outside = is_outside (g.R.Rows.cells c.args.rows.now) in
    list_any_none outside c.args.cells.now (All-from_get_or (λ cell. outside cell ≡ false)
    c.args.cells.now origin (λ k within. c.cells.invariant k (omega arith)))
