-- The first answer is written and then those to the lines, one after another; a write that fails
-- leaves a prefix of them.
use Rattle.std.proofs.Common.{rules, ◌∙◌}
use Rattle.std.proofs.lemmas.Result.{err_from_is_err_and}
use Rattle.steps.proofs.Hearing.{IsHeard-nothing, IsHeard-more, IsHeard-part}
use Rattle.steps.proofs.Telling.{told_whole, told_in_part, told_first, told_all}
use Rattle.steps.proofs.steps.run.write_world.Goals as goal

pub returns-in_err-write_all-clause-front : goal.returns-in_err-write_all-clause-front
returns-in_err-write_all-clause-front g c =
    let p = err_from_is_err_and c.from_residual.result c.from_residual.ensures.1 in
    rw p.1 (told_first _ _ _ _ _
    (rw (c.as_bytes.ensures ∙ c.opened_line.ensures.line) at c.in_err-write_all.ensures.front))

pub lines-init : goal.lines-init
lines-init g c =
    record { heard = IsHeard-nothing _ _ _; none_failed = c.in_ok-write_all.ensures.counts }

pub returns-in_err-write_all-2-clause-front : goal.returns-in_err-write_all-2-clause-front
returns-in_err-write_all-2-clause-front g c =
    let p = err_from_is_err_and c.from_residual-in_err-write_all-2.result
    c.from_residual-in_err-write_all-2.ensures.1 in
    rw p.1 (told_in_part _ _ _ _ _ _
    (rw (c.as_bytes.ensures ∙ c.opened_line.ensures.line) at c.in_ok-write_all.ensures.all)
    (IsHeard-part _ _ _ _ _ _ _ _ _ _ (rw c.in-Some.ensures.lines at c.lines.invariant.heard)
    c.answer_line.ensures.answered
    (rw c.as_bytes-in-Some.ensures at c.in_err-write_all-2.ensures.front)))

pub lines-preserved : goal.lines-preserved
lines-preserved g c = record {
  heard = IsHeard-more _ _ _ _ _ _ _ _ _ _ (rw c.in-Some.ensures.lines at c.lines.invariant.heard)
      c.answer_line.ensures.answered
      (rw c.as_bytes-in-Some.ensures at c.in_ok-write_all-2.ensures.all);
  none_failed = c.in_ok-write_all-2.ensures.counts ∙ c.lines.invariant.none_failed;
}

pub returns-in_err-flush-clause-front : goal.returns-in_err-flush-clause-front
returns-in_err-flush-clause-front g c =
    let p = err_from_is_err_and c.from_residual-in_err-flush.result
    c.from_residual-in_err-flush.ensures.1 in
    rw (p.1, c.flush.ensures.held)
    (told_all _ _ _ _ _ (told_whole _ c.lines.world _ _ _ _ _
    (rw (c.as_bytes.ensures ∙ c.opened_line.ensures.line) at c.in_ok-write_all.ensures.all)
    (search rules)))

pub returns-clause-whole : goal.returns-clause-whole
returns-clause-whole g c =
    rw c.flush.ensures.held
    (told_whole _ c.lines.world _ _ _ _ _
    (rw (c.as_bytes.ensures ∙ c.opened_line.ensures.line) at c.in_ok-write_all.ensures.all)
    (search rules))
