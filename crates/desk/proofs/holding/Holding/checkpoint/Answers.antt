-- A checkpoint is done.
use Rattle.desk.proofs.Names.{refl}
use Rattle.desk.proofs.HoldDraw.{checkpoint_done}
use Rattle.desk.proofs.holding.Holding.checkpoint.Goals as goal

pub returns : goal.returns
returns c = checkpoint_done c.args.self.now _ _ _ c.requires.judged refl
    c.enter_checkpoint.ensures.entered c.enter_checkpoint.ensures.reply
