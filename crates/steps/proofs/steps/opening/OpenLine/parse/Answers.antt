-- A line in which a number is missing or out of its limits opens nothing, and any other is the
-- opening of its numbers.
use Rattle.steps.proofs.OpeningLemmas.{opening_of-none, opening_of-one, opening_told-none}
use Rattle.steps.proofs.steps.opening.OpenLine.parse.Goals as goal

pub returns-in_err-width-clause-told : goal.returns-in_err-width-clause-told
returns-in_err-width-clause-told c =
    rw c.from_residual.ensures
    (opening_told-none c.args.line.now _ _ c.split_word.ensures.words
    (opening_of-none _ c.in_err-width.ensures.numbers))

pub returns-in_err-height-clause-told : goal.returns-in_err-height-clause-told
returns-in_err-height-clause-told c =
    rw c.from_residual-in_err-height.ensures
    (opening_told-none c.args.line.now _ _ c.split_word.ensures.words
    (opening_of-one _ _ _ c.in_ok-width.ensures.numbers c.in_err-height.ensures.numbers))
