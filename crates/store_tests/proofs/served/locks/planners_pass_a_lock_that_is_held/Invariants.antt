-- The store whose lock is held takes its name from the blank one.
use Rattle.store_tests.proofs.served.locks.planners_pass_a_lock_that_is_held.Given as goal

-- the store's name is that of what it is opened from
abbrev pub ghosts-plans_while_the_lock_is_held : goal.ghosts-plans_while_the_lock_is_held
ghosts-plans_while_the_lock_is_held g a = record { store = a.blank }
