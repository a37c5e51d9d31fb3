-- The answer to a query is what the map's call for it ensures, whether over a rectangle, a path or
-- a clear path.
use Rattle.answering.proofs.queries.answer_by.Goals as goal

pub returns-in-Ok-least_in-clause-answer : goal.returns-in-Ok-least_in-clause-answer
returns-in-Ok-least_in-clause-answer g c =
    rw c.in-Rect.is (c.in-Ok-least_in.ensures.inside, c.in-Ok-least_in.ensures.least)

pub returns-in-Ok-along-clause-answer : goal.returns-in-Ok-along-clause-answer
returns-in-Ok-along-clause-answer g c =
    rw (c.in-Path.is, ← c.as_slice.ensures.value)
    (c.in-Ok-along.ensures.accepted, c.in-Ok-along.ensures.least)

pub returns-in-Ok-clear_of-clause-answer : goal.returns-in-Ok-clear_of-clause-answer
returns-in-Ok-clear_of-clause-answer g c =
    rw (c.in-ClearOf.is, ← c.as_slice-in-ClearOf.ensures.value)
    (c.in-Ok-clear_of.ensures.accepted, c.in-Ok-clear_of.ensures.clear)
