-- A setting that fits has no field out of its limits, so all that is left is a growth that was
-- refused.
use Rattle.std.proofs.Common.{◌∙◌, Err, Ok, ap, refl, rules}
use Rattle.std.proofs.lemmas.Result.{err_from_is_err_and}
use Rattle.map_core.proofs.RunLemmas.{good_later, no_success, passed_on}
use Rattle.map_core.proofs.history.run.Goals as goal

pub returns-in_err-fits-clause-refused : goal.returns-in_err-fits-clause-refused
returns-in_err-fits-clause-refused c =
    let p = err_from_is_err_and c.from_residual.result c.from_residual.ensures.1 in
    passed_on _ _ c.in_err-fits.field-0.0 _ (p.1 ∙ ap Err p.2) (no_success _)
    c.in_err-fits.ensures

pub returns-in_err-answers-clause-refused : goal.returns-in_err-answers-clause-refused
returns-in_err-answers-clause-refused c =
    let p = err_from_is_err_and c.from_residual-in_err-answers.result
    c.from_residual-in_err-answers.ensures.1 in
    good_later _ c.in_ok-fits.field-0 c.from_residual-in_err-answers.result
    (rw (p.1, p.2) refl) c.in_ok-fits.ensures

pub returns-in_err-world-clause-refused : goal.returns-in_err-world-clause-refused
returns-in_err-world-clause-refused c =
    let p = err_from_is_err_and c.from_residual-in_err-world.result
    c.from_residual-in_err-world.ensures.1 in
    passed_on _ _ c.in_err-world.field-0.0 _ (p.1 ∙ ap Err p.2) (λ is. is)
    c.in_err-world.ensures.refused

pub returns-clause-refused : goal.returns-clause-refused
returns-clause-refused c =
    good_later _ c.in_ok-fits.field-0 (Ok (c.answer_each.new.world, c.answer_each.new.answers)) tt
    c.in_ok-fits.ensures

pub returns-in_err-fits-clause-run : goal.returns-in_err-fits-clause-run
returns-in_err-fits-clause-run c =
    let p = err_from_is_err_and c.from_residual.result c.from_residual.ensures.1 in rw p.1 tt

pub returns-in_err-answers-clause-run : goal.returns-in_err-answers-clause-run
returns-in_err-answers-clause-run c =
    let p = err_from_is_err_and c.from_residual-in_err-answers.result
    c.from_residual-in_err-answers.ensures.1 in
    rw p.1 tt

pub returns-in_err-world-clause-run : goal.returns-in_err-world-clause-run
returns-in_err-world-clause-run c =
    let p = err_from_is_err_and c.from_residual-in_err-world.result
    c.from_residual-in_err-world.ensures.1 in
    rw p.1 tt

pub returns-clause-run : goal.returns-clause-run
returns-clause-run c = record {
  start = c.in_ok-world.world;
  opened = c.in_ok-world.ensures.opened;
  run = search rules;
}

pub answer_each-requires-clause-none : goal.answer_each-requires-clause-none
answer_each-requires-clause-none c = c.in_ok-answers.ensures.items
