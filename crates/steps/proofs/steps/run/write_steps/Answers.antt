-- A write that failed leaves a prefix of the answer: the line of a refusal, or the answers of the
-- world that was opened.
use Rattle.std.proofs.Common.{ap, Err}
use Rattle.std.proofs.lemmas.Result.{on_err_weaker}
use Rattle.steps.specs.Opening.{opened_by}
use Rattle.steps.proofs.StepAnswering.{refusal_begun, stop_begun}
use Rattle.steps.proofs.Telling.{told_begun}
use Rattle.steps.proofs.steps.run.write_steps.Goals as goal

pub returns-in_default-clause-front : goal.returns-in_default-clause-front
returns-in_default-clause-front g c =
    on_err_weaker c.write_refusal.result
    (λ front. refusal_begun c.args.bytes.now _ _ _ (ap opened_by c.in_default.ensures.lines) front)
    c.write_refusal.ensures.front

pub returns-in-Err-clause-front : goal.returns-in-Err-clause-front
returns-in-Err-clause-front g c =
    on_err_weaker c.write_refusal-in-Err.result
    (λ front. stop_begun c.args.bytes.now _ _ c.in-Err.refusal _ _ c.in-Some.ensures.lines
    c.in-Err.ensures.refusal (λ e. c.in-Err.ensures.memory (ap Err e)) front)
    c.write_refusal-in-Err.ensures.front

pub returns-in-Ok-clause-front : goal.returns-in-Ok-clause-front
returns-in-Ok-clause-front g c =
    on_err_weaker c.write_world.result
    (λ part. told_begun c.args.bytes.now _ _ _ _ _ _ c.in-Some.ensures.lines
    c.in-Ok.ensures.opened part) c.write_world.ensures.front
