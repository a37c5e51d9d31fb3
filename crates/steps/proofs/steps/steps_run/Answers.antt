-- Where memory is wanting its line is the whole answer, or a prefix of that line is written where
-- the write failed.
use Rattle.steps.proofs.StepAnswering.{memory_answered, memory_told_in_part}
use Rattle.steps.proofs.steps.steps_run.Goals as goal

pub returns-in-Err-Memory-clause-answers : goal.returns-in-Err-Memory-clause-answers
returns-in-Err-Memory-clause-answers g c = λ reads same.
    rw c.unwrap_or-in-Err-Memory.ensures
    (memory_answered (g.R.Source.rest c.args.reader.now) (g.W.Sink.held c.args.writer.now)
    (g.W.Sink.held c.write_refusal.new.writer) c.write_refusal.result _ _
    c.write_refusal.ensures.status (rw c.from.ensures at c.write_refusal.ensures.whole)
    c.write_refusal.ensures.counts same)

pub returns-in-Err-Memory-clause-failed_write : goal.returns-in-Err-Memory-clause-failed_write
returns-in-Err-Memory-clause-failed_write g c = λ other.
    rw c.unwrap_or-in-Err-Memory.ensures
    (memory_told_in_part (g.R.Source.rest c.args.reader.now) (g.W.Sink.held c.args.writer.now)
    (g.W.Sink.held c.write_refusal.new.writer) c.write_refusal.result _ _
    (rw c.from.ensures at c.write_refusal.ensures.front) c.write_refusal.ensures.counts other)
