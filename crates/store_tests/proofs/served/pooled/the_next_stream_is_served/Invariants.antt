-- The store that the pool serves takes its name from the blank one.
use Rattle.store_tests.proofs.served.pooled.the_next_stream_is_served.Given as goal

-- the store's name is that of what it is opened from
abbrev pub ghosts-pool_in : goal.ghosts-pool_in
ghosts-pool_in g a = record { store = a.blank }
