-- A current publish is worked: each word is the next one, and what is held is answered after them.
use Rattle.desk.proofs.Names.{arith, ◌<◌, ◌+◌, ◌*◌, ap, refl, subst, ◌∙◌, next_position}
use Rattle.desk.proofs.HoldLemmas.{publish_room}
use Rattle.desk.proofs.HoldOpen.{can_answer}
use Rattle.desk.proofs.PublishSteps.{next_block, next_slot_is, publish_worked, all_own}
use Rattle.desk.proofs.carry.publish.carry_publish.Goals as goal

pub next_slot-slot-requires : goal.next_slot-slot-requires
next_slot-slot-requires g c =
    publish_room _ _ (can_answer _ _ _ c.requires.in_hand.told).balanced refl c.requires.judged

pub write_word-requires : goal.write_word-requires
write_word-requires g c =
    let z = g.Id.StoreName.store.base in
    let k = c.args.keeper.now in
    let h = c.args.holding.now in
    let told = c.requires.in_hand.told in
    let plan = c.plan-plan.ensures in
    let p = c.directory.position in
    let below = subst (λ n. p < n) plan.tiles_is c.directory-test.true in
    let all = all_own z k h c.tiles.position c.tiles.stored told (omega (arith, plan.tiles_is))
    c.tiles.invariant.count in
    next_position z k c.directory.keeper c.args.by p _ _ _ c.next_slot-slot.result
    c.directory.invariant (ap (λ n. 64 * n + p) all) below
    (next_slot_is z k h _ told c.next_slot-slot.ensures)
    (rw (← c.from.ensures) (c.map_at.ensures z plan))
    (c.from-in-directory.ensures ∙ next_block z k h p _ told c.block_at-block.ensures)

pub publish-requires-clause-able : goal.publish-requires-clause-able
publish-requires-clause-able g c = can_answer _ _ _ c.requires.in_hand.told

pub returns : goal.returns
returns g c =
    let tiles_is = c.plan-plan.ensures.tiles_is in
    publish_worked g.Id.StoreName.store c.args.keeper.now _ _ _ c.args.by _ _ _ c.requires.in_hand
    (all_own _ c.args.keeper.now _ c.tiles.position _ c.requires.in_hand.told
    (omega (arith, tiles_is)) c.tiles.invariant.count)
    (omega (arith, tiles_is)) c.directory.invariant c.publish.ensures
