-- A publish is done.
use Rattle.desk.proofs.Names.{refl}
use Rattle.desk.proofs.HoldPublish.{publish_done}
use Rattle.desk.proofs.holding.Holding.publish.Goals as goal

pub returns : goal.returns
returns c = publish_done c.args.self.now _ _ c.requires.judged c.seal.ensures.sealed refl
    c.enter_publish.ensures.entered c.enter_publish.ensures.reply
