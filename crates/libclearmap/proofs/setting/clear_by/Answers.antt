-- The metric is the one that was chosen.
use Rattle.libclearmap.proofs.setting.clear_by.Goals as goal

pub returns-in-Chess-clause-clear : goal.returns-in-Chess-clause-clear
returns-in-Chess-clause-clear g c = rw c.in-Chess.is c.clear_of-in-Chess.ensures.clear
