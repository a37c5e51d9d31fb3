-- A refused store is told in one line: its setting's first field that is out of its limits, or else
-- out of memory.
use Rattle.proto.proofs.ServerLemmas.{begun_status, lacking_front, lacking_whole, memory_alone}
use Rattle.proto.proofs.ServerLemmas.{told_setting, told_status}
use Rattle.proto.proofs.server.serve_run.Goals as goal

pub returns-in-Err-clause-setting : goal.returns-in-Err-clause-setting
returns-in-Err-clause-setting g c =
    rw c.unwrap_or-in-Err.ensures
    (told_setting _ _ _ c.of.result _ c.in-Err.refusal _ _ _ _ c.write_refusal.result
    c.of.ensures.refused c.in-Err.is c.write_refusal.ensures.status
    c.write_refusal.ensures.counts c.write_refusal.ensures.whole c.write_refusal.ensures.front)

pub returns-in-Err-clause-served : goal.returns-in-Err-clause-served
returns-in-Err-clause-served g c = λ good.
    rw c.unwrap_or-in-Err.ensures
    (told_status _ c.write_refusal.result _ _
    (lacking_whole _ _ _ _ c.in-Err.refusal c.write_refusal.result
    (memory_alone _ c.of.result _ _ c.in-Err.refusal c.of.ensures.refused
    c.in-Err.is good) c.write_refusal.ensures.status c.write_refusal.ensures.whole)
    c.write_refusal.ensures.counts)

pub returns-in-Err-clause-failed : goal.returns-in-Err-clause-failed
returns-in-Err-clause-failed g c = λ good.
    rw c.unwrap_or-in-Err.ensures
    (begun_status _ c.write_refusal.result _ _
    (lacking_front _ _ _ _ c.in-Err.refusal c.write_refusal.result
    (memory_alone _ c.of.result _ _ c.in-Err.refusal c.of.ensures.refused
    c.in-Err.is good) c.write_refusal.ensures.front) c.write_refusal.ensures.counts)

pub returns-in-Ok-clause-served : goal.returns-in-Ok-clause-served
returns-in-Ok-clause-served g c = λ good.
    rw c.unwrap_or.ensures
    (told_status _ c.serve_blank.result _ _ c.serve_blank.ensures.served
    c.serve_blank.ensures.counts)

pub returns-in-Ok-clause-failed : goal.returns-in-Ok-clause-failed
returns-in-Ok-clause-failed g c = λ good.
    rw c.unwrap_or.ensures
    (begun_status _ c.serve_blank.result _ _ c.serve_blank.ensures.begun
    c.serve_blank.ensures.counts)
