-- The name in the call of `pins_in` is that of the store that was just made.
use Rattle.memory_tests.proofs.pins.a_refused_pin_holds_nothing.Given as goal

abbrev pub ghosts-pins_in : goal.ghosts-pins_in
ghosts-pins_in g a = record { store = a.blank }
