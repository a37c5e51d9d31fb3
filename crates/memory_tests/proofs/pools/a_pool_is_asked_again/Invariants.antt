-- The name in the call of `pools_in` is that of the store that was just made.
use Rattle.memory_tests.proofs.pools.a_pool_is_asked_again.Given as goal

abbrev pub ghosts-pools_in : goal.ghosts-pools_in
ghosts-pools_in g a = record { store = a.blank }
