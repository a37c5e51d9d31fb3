-- The name in the call of `serves_in` is that of the store that was just made.
use Rattle.memory_tests.proofs.serving.a_stream_goes_on_after_want_of_memory.Given as goal

abbrev pub ghosts-serves_in : goal.ghosts-serves_in
ghosts-serves_in g a = record { store = a.blank }
