-- Each turn leaves one connection less to be accepted.
use Rattle.proto.proofs.server.accepted.AcceptedStreams.next.Given as goal

abbrev pub decreases-connections : goal.decreases-connections
decreases-connections g l = l.self.left
