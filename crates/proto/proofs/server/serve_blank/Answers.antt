-- Where there is no memory for the sessions, the line for out of memory is written, or a prefix of
-- it.
use Rattle.proto.proofs.ServerLemmas.{lacking_front}
use Rattle.proto.proofs.server.serve_blank.Goals as goal

pub returns-in-Err-clause-begun : goal.returns-in-Err-clause-begun
returns-in-Err-clause-begun g c =
    lacking_front _ _ _ _ c.from.result c.write_refusal.result c.from.ensures
    c.write_refusal.ensures.front
