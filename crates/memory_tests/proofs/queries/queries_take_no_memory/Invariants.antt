-- The name in the call of `asks_in` is that of the store that was just made.
use Rattle.memory_tests.proofs.queries.queries_take_no_memory.Given as goal

abbrev pub ghosts-asks_in : goal.ghosts-asks_in
ghosts-asks_in g a = record { store = a.blank }
