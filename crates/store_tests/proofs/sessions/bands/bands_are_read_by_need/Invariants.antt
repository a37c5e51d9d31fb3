-- The store that was just made has the name.
use Rattle.store_tests.proofs.sessions.bands.bands_are_read_by_need.Given as goal

abbrev pub ghosts-take_turns : goal.ghosts-take_turns
ghosts-take_turns g a = record { store = a.blank }
