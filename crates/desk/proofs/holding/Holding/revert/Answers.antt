-- A revert is done.
use Rattle.desk.proofs.HoldDraw.{revert_done}
use Rattle.desk.proofs.holding.Holding.revert.Goals as goal

pub returns : goal.returns
returns c = revert_done c.args.self.now _ _ c.requires.judged c.revert.ensures.reverted
    c.revert.ensures.home c.enter_revert.ensures.entered c.enter_revert.ensures.reply
