-- The store that is served takes its name from the blank one.
use Rattle.store_tests.proofs.served.failing.a_writer_takes_three_bytes.Given as goal

-- the store's name is that of what it is opened from
abbrev pub ghosts-serve_in : goal.ghosts-serve_in
ghosts-serve_in g a = record { store = a.blank }
