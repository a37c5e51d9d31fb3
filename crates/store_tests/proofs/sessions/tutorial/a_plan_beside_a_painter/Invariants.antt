-- The name in the call of `paint_and_plan` is that of the store that was just made.
use Rattle.store_tests.proofs.sessions.tutorial.a_plan_beside_a_painter.Given as goal

abbrev pub ghosts-paint_and_plan : goal.ghosts-paint_and_plan
ghosts-paint_and_plan g a = record { store = a.blank }
