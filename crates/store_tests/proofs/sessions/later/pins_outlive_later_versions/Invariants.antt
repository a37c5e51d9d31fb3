-- The name in the call of `pin_again` is that of the store that was just made.
use Rattle.store_tests.proofs.sessions.later.pins_outlive_later_versions.Given as goal

abbrev pub ghosts-pin_again : goal.ghosts-pin_again
ghosts-pin_again g a = record { store = a.blank }
