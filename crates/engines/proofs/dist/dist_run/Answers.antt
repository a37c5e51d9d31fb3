-- What is written is the answer to the image that was read, or a prefix of it where a write failed;
-- a fault, or out of memory, is an answer too.
use Rattle.std.proofs.Common.{◌++◌, ◌∷◌, [], OnOk, OnErr}
use Rattle.metric.specs.Refusal.{image_text}
use Rattle.metric.specs.Stream.{Appends, AppendsFront}
use Rattle.pbm.specs.Windows.{HasFault}
use Rattle.engines.proofs.Faults.{IsFaultOf-fault}
use Rattle.engines.proofs.Answering.{answered, begun, fault_whole, fault_in_part, memory_whole}
use Rattle.engines.proofs.Answering.{memory_in_part}
use Rattle.engines.proofs.dist.dist_run.Goals as goal

pub returns-in-Err-Memory-clause-answers : goal.returns-in-Err-Memory-clause-answers
returns-in-Err-Memory-clause-answers g c = λ reads same.
    let unread = g.R.Source.rest c.args.reader.now in
    let before = g.W.Sink.held c.args.writer.now in
    let after = g.W.Sink.held c.write_refusal-in-Err-Memory.new.writer in
    rw c.unwrap_or-in-Err-Memory.ensures
    (memory_whole c.args.options.now unread before after c.write_refusal-in-Err-Memory.result _ _
    c.write_refusal-in-Err-Memory.ensures.status
    (rw c.from.ensures at c.write_refusal-in-Err-Memory.ensures.whole)
    c.write_refusal-in-Err-Memory.ensures.counts same)

pub returns-in-Err-Memory-clause-failed_write : goal.returns-in-Err-Memory-clause-failed_write
returns-in-Err-Memory-clause-failed_write g c = λ other.
    let unread = g.R.Source.rest c.args.reader.now in
    let before = g.W.Sink.held c.args.writer.now in
    let after = g.W.Sink.held c.write_refusal-in-Err-Memory.new.writer in
    rw c.unwrap_or-in-Err-Memory.ensures
    (memory_in_part c.args.options.now unread before after c.write_refusal-in-Err-Memory.result _ _
    (rw c.from.ensures at c.write_refusal-in-Err-Memory.ensures.front)
    c.write_refusal-in-Err-Memory.ensures.counts other)

pub returns-in-Err-Fault-clause-answers : goal.returns-in-Err-Fault-clause-answers
returns-in-Err-Fault-clause-answers g c = λ reads same.
    let unread = g.R.Source.rest c.args.reader.now in
    let before = g.W.Sink.held c.args.writer.now in
    let after = g.W.Sink.held c.write_refusal.new.writer in
    let fault = c.in-Err-Fault.fault in
    let has : HasFault unread fault = IsFaultOf-fault c.in-Err-Fault.field-0 fault
    (HasFault unread) c.in-Err-Fault.field-0-is c.in-Err-Fault.ensures.fault in
    let whole : OnOk c.write_refusal.result (Appends before (image_text fault ++ 10 ∷ []) after) =
    rw (← c.in-Err-Fault.fault-is) c.write_refusal.ensures.whole in
    rw c.unwrap_or-in-Err-Fault.ensures
    (fault_whole c.args.options.now unread before after fault c.write_refusal.result _ _ has
    c.write_refusal.ensures.status whole c.write_refusal.ensures.counts same)

pub returns-in-Err-Fault-clause-failed_write : goal.returns-in-Err-Fault-clause-failed_write
returns-in-Err-Fault-clause-failed_write g c = λ other.
    let unread = g.R.Source.rest c.args.reader.now in
    let before = g.W.Sink.held c.args.writer.now in
    let after = g.W.Sink.held c.write_refusal.new.writer in
    let fault = c.in-Err-Fault.fault in
    let has : HasFault unread fault = IsFaultOf-fault c.in-Err-Fault.field-0 fault
    (HasFault unread) c.in-Err-Fault.field-0-is c.in-Err-Fault.ensures.fault in
    let front : OnErr c.write_refusal.result
    (AppendsFront before (image_text fault ++ 10 ∷ []) after) =
    rw (← c.in-Err-Fault.fault-is) c.write_refusal.ensures.front in
    rw c.unwrap_or-in-Err-Fault.ensures
    (fault_in_part c.args.options.now unread before after fault c.write_refusal.result _ _ has front
    c.write_refusal.ensures.counts other)

pub returns-in-Ok-clause-answers : goal.returns-in-Ok-clause-answers
returns-in-Ok-clause-answers g c = λ reads same.
    let unread = g.R.Source.rest c.args.reader.now in
    let before = g.W.Sink.held c.args.writer.now in
    let after = g.W.Sink.held c.write_answer.new.writer in
    rw c.unwrap_or.ensures (answered c.args.options.now unread before after c.in-Ok.map
    c.write_answer.result _ _ c.in-Ok.ensures.image c.write_answer.ensures.whole
    c.write_answer.ensures.counts same)

pub returns-in-Ok-clause-failed_write : goal.returns-in-Ok-clause-failed_write
returns-in-Ok-clause-failed_write g c = λ other.
    let unread = g.R.Source.rest c.args.reader.now in
    let before = g.W.Sink.held c.args.writer.now in
    let after = g.W.Sink.held c.write_answer.new.writer in
    rw c.unwrap_or.ensures (begun c.args.options.now unread before after c.in-Ok.map
    c.write_answer.result _ _ c.in-Ok.ensures.image c.write_answer.ensures.front
    c.write_answer.ensures.counts other)
