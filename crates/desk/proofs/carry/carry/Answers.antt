-- A command is taken, worked and committed.
use Rattle.desk.proofs.CarryLemmas.{carried, may_commit, slot_told, taken_in_hand}
use Rattle.desk.proofs.carry.carry.Goals as goal

pub commit-requires-clause-may : goal.commit-requires-clause-may
commit-requires-clause-may g c =
    let z = g.Id.StoreName.store in
    may_commit z _ _ _ _ _ _ c.work-reply.result
    (taken_in_hand z c.args.keeper.now _ _ _ _ c.requires.able c.order.ensures) c.requires.caller
    c.work-reply.ensures.worked

pub commit-requires-clause-slot : goal.commit-requires-clause-slot
commit-requires-clause-slot g c =
    let z = g.Id.StoreName.store in
    slot_told z _ _ _ _ _ _ c.work-reply.result
    (taken_in_hand z c.args.keeper.now _ _ _ _ c.requires.able c.order.ensures)
    c.work-reply.ensures.worked

pub returns-clause-carried : goal.returns-clause-carried
returns-clause-carried g c =
    carried g.Id.StoreName.store c.args.keeper.now _ _ _ _ _ _ _ _ c.order.ensures
    c.work-reply.ensures.worked c.commit.ensures.committed
