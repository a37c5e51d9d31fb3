-- The name in the call of `compare` is that of the store that was just made.
use Rattle.store_tests.proofs.sessions.fresh.compare_on.Given as goal

abbrev pub ghosts-compare : goal.ghosts-compare
ghosts-compare g a = record { store = a.blank }
