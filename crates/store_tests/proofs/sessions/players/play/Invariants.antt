-- The name in the call of `play_in` is that of the store that was just made.
use Rattle.store_tests.proofs.sessions.players.play.Given as goal

abbrev pub ghosts-play_in : goal.ghosts-play_in
ghosts-play_in g a = record { store = a.blank }
