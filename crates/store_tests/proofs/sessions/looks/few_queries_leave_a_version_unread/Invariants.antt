-- The name in the call of `ask_pins` is that of the store that was just made.
use Rattle.store_tests.proofs.sessions.looks.few_queries_leave_a_version_unread.Given as goal

abbrev pub ghosts-ask_pins : goal.ghosts-ask_pins
ghosts-ask_pins g a = record { store = a.blank }
