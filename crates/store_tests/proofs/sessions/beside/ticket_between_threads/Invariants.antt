-- The name in the call of `hands_a_ticket_over` is that of the store that was just made.
use Rattle.store_tests.proofs.sessions.beside.ticket_between_threads.Given as goal

abbrev pub ghosts-hands_a_ticket_over : goal.ghosts-hands_a_ticket_over
ghosts-hands_a_ticket_over g a = record { store = a.blank }
