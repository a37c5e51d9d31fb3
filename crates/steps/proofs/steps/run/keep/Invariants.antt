-- This many steps were done, of which the last has this answer.
use Rattle.steps.specs.Steps.{Keeps}
use Rattle.steps.proofs.steps.run.keep.Given as goal

abbrev pub invariant-steps : goal.invariant-steps
invariant-steps l = Keeps l.counter l.fn.world l.answer l.world
