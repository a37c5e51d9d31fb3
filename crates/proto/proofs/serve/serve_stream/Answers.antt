-- Another line is served after those before it; where it ends the stream, the session comes back
-- without a pin.
use Rattle.std.proofs.Common.{rules, ◌≡◌, Some, None}
use Rattle.proto.specs.Callers.{free}
use Rattle.proto.proofs.Serving.{serves_left, serves_nothing, serves_on}
use Rattle.proto.proofs.serve.serve_stream.Goals as goal

pub returns-in-Some-end-clause-served : goal.returns-in-Some-end-clause-served
returns-in-Some-end-clause-served g c other =
    serves_left g.Id.StoreName.store c.in-Some-end.end _ _ (free c.args.session) _
    (free c.into_session.result) c.into_session.ensures
    (serves_on g.Id.StoreName.store (Some c.in-Some-end.end) _ _ _ _ _ _ c.lines.invariant
    (rw c.in-Some-end.is at c.serve_line-next.ensures))

pub lines-preserved : goal.lines-preserved
lines-preserved g c =
    let goes_on : c.serve_line-next.result.1 ≡ None = search rules in
    serves_on g.Id.StoreName.store None _ _ _ _ _ _ c.lines.invariant
    (rw goes_on at c.serve_line-next.ensures)

pub lines-init : goal.lines-init
lines-init g c =
    rw c.new-caller.ensures (serves_nothing g.Id.StoreName.store _ (free c.args.session))
