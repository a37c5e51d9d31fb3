-- All lines so far were served, and none of them has ended the stream.
use Rattle.std.proofs.Common.{None}
use Rattle.proto.specs.Callers.{free}
use Rattle.proto.specs.Served.{IsServed}
use Rattle.proto.proofs.serve.serve_stream.Given as goal

-- the stream was served so far, and goes on
abbrev pub invariant-lines : goal.invariant-lines
invariant-lines g l =
    IsServed g.Id.StoreName.store None (g.S.Stream.wire l.fn.stream) (free l.fn.session)
    (g.S.Stream.wire l.stream) l.caller
