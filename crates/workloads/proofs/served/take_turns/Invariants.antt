-- The name in the call of `serve_in` is that of the store that was just made.
use Rattle.workloads.proofs.served.take_turns.Given as goal

abbrev pub ghosts-serve_in : goal.ghosts-serve_in
ghosts-serve_in g a = record { store = a.blank }
