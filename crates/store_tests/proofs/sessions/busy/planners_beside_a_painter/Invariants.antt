-- The name in the call of `paints_and_plans` is that of the store that was just made.
use Rattle.store_tests.proofs.sessions.busy.planners_beside_a_painter.Given as goal

abbrev pub ghosts-paints_and_plans : goal.ghosts-paints_and_plans
ghosts-paints_and_plans g a = record { store = a.blank }
