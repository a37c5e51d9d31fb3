-- The worker has done nothing with its session but serve fresh streams.
use Rattle.proto.specs.Pools.{HasWorked}
use Rattle.proto.proofs.workers.serve_all.Given as goal

-- the session was led on by fresh streams alone
abbrev pub invariant-streams : goal.invariant-streams
invariant-streams g l =
    HasWorked g.T.Streams.fresh g.T.S.Stream.wire g.Id.StoreName.store l.fn.session l.session
