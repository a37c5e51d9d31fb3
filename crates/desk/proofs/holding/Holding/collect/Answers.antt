-- A collect is done.
use Rattle.desk.proofs.HoldCollect.{collect_done}
use Rattle.desk.proofs.holding.Holding.collect.Goals as goal

pub returns-clause-done : goal.returns-clause-done
returns-clause-done c =
    collect_done c.args.self.now _ _ _ _ c.requires.judged c.requires.part c.requires.newest
    c.collect-freed.ensures.swept c.collect-freed.ensures.home c.enter_collect.ensures.entered
    c.enter_collect.ensures.reply
