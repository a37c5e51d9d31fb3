-- Each turn leaves fewer sessions to be taken by players.
use Rattle.store_tests.proofs.sessions.players.Players.new.Given as goal

abbrev pub decreases-sessions : goal.decreases-sessions
decreases-sessions g l = goal.left-sessions g l
