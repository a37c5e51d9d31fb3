-- A worker starts with no stream served, and each turn adds a fresh one.
use Rattle.proto.proofs.Pooling.{HasWorked-next}
use Rattle.proto.proofs.workers.serve_all.Goals as goal
use Rattle.std.proofs.Common.{refl, []}

pub streams-init : goal.streams-init
streams-init g c = record { streams = []; served = refl }

pub streams-preserved : goal.streams-preserved
streams-preserved g c =
    HasWorked-next _ _ _ _ _ _ _ _ _ c.streams.invariant
    (rw c.in-Some-next.is at c.next-next.ensures.fresh) c.serve_stream-back.ensures.served
    c.serve_stream-back.ensures.session
