-- The name in the call of `asks_the_largest_map` is that of the store that was just made.
use Rattle.store_tests.proofs.sessions.limits.the_largest_map.Given as goal

abbrev pub ghosts-asks_the_largest_map : goal.ghosts-asks_the_largest_map
ghosts-asks_the_largest_map g a = record { store = a.blank }
