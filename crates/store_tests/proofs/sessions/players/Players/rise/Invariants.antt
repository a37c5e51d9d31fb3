-- Each turn leaves fewer seats to be left by players.
use Rattle.store_tests.proofs.sessions.players.Players.rise.Given as goal

abbrev pub decreases-seats : goal.decreases-seats
decreases-seats g l = goal.left-seats g l
