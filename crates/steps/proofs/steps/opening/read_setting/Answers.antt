-- Where no number is left for the blocks there is no setting.
use Rattle.steps.proofs.OpeningLemmas.{setting_of-none}
use Rattle.steps.proofs.steps.opening.read_setting.Goals as goal

pub returns-in_err-blocks : goal.returns-in_err-blocks
returns-in_err-blocks c =
    rw c.from_residual.ensures (setting_of-none _ c.in_err-blocks.ensures.numbers)
