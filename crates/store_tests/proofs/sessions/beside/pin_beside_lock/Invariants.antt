-- The name in the call of `pins_while_the_lock_is_held` is that of the store that was just made.
use Rattle.store_tests.proofs.sessions.beside.pin_beside_lock.Given as goal

abbrev pub ghosts-pins_while_the_lock_is_held : goal.ghosts-pins_while_the_lock_is_held
ghosts-pins_while_the_lock_is_held g a = record { store = a.blank }
