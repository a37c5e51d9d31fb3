-- The name in the call of `plays_in` is that of the store that was just made.
use Rattle.memory_tests.proofs.commands.commands_are_made_again.Given as goal

abbrev pub ghosts-plays_in : goal.ghosts-plays_in
ghosts-plays_in g a = record { store = a.blank }
