-- Another step of the keeper joins those that are done.
use Rattle.steps.proofs.Keeping.{Keeps-more}
use Rattle.steps.proofs.steps.run.keep.Goals as goal

pub steps-preserved : goal.steps-preserved
steps-preserved c = Keeps-more _ _ _ _ _ _ c.steps.invariant c.step-answer-in-steps.ensures
