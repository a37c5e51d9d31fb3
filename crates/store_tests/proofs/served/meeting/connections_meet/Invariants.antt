-- The store that both connections use takes its name from the blank one.
use Rattle.store_tests.proofs.served.meeting.connections_meet.Given as goal

-- the store's name is that of what it is opened from
abbrev pub ghosts-pool_in : goal.ghosts-pool_in
ghosts-pool_in g a = record { store = a.blank }
