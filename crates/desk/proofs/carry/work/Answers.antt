-- A current command of one step is worked once what it does is done.
use Rattle.desk.proofs.Names.{arith, refl}
use Rattle.desk.proofs.CarryLemmas.{worked_at_once}
use Rattle.desk.proofs.HoldOpen.{can_answer}
use Rattle.desk.proofs.carry.work.Goals as goal

pub draw-requires-clause-able : goal.draw-requires-clause-able
draw-requires-clause-able g c = can_answer _ _ _ c.requires.in_hand.told

pub revert-requires-clause-able : goal.revert-requires-clause-able
revert-requires-clause-able g c = can_answer _ _ _ c.requires.in_hand.told

pub checkpoint-requires-clause-able : goal.checkpoint-requires-clause-able
checkpoint-requires-clause-able g c = can_answer _ _ _ c.requires.in_hand.told

pub returns-in-Draw-clause-worked : goal.returns-in-Draw-clause-worked
returns-in-Draw-clause-worked g c =
    let judged = rw c.in-Draw.is at c.requires.judged in
    let draws = judged.kind.0 in
    worked_at_once g.Id.StoreName.store c.args.keeper.now _ _ _ _ _ _ c.requires.in_hand refl
    (grind arith) (c.draw.ensures _ judged)

pub returns-in-Revert-clause-worked : goal.returns-in-Revert-clause-worked
returns-in-Revert-clause-worked g c =
    worked_at_once g.Id.StoreName.store c.args.keeper.now _ _ _ _ _ _ c.requires.in_hand
    (rw c.in-Revert.is at c.requires.judged).kind tt c.revert.ensures

pub returns-in-Checkpoint-clause-worked : goal.returns-in-Checkpoint-clause-worked
returns-in-Checkpoint-clause-worked g c =
    worked_at_once g.Id.StoreName.store c.args.keeper.now _ _ _ _ _ _ c.requires.in_hand
    (rw c.in-Checkpoint.is at c.requires.judged).kind tt c.checkpoint.ensures
