-- The rule holds of the table as it is made, and the seats are at it.
use Rattle.shelf.proofs.Names.{rules, Base}
use Rattle.events.proofs.steps.OpenWorld.{fits_ready}
use Rattle.shelf.proofs.steps.EndSteps.{is_of_new}
use Rattle.shelf.proofs.steps.OpeningSteps.{rule_at_first}
use Rattle.shelf.proofs.opened.Opening.of.Goals as goal

pub of_words-requires : goal.of_words-requires
of_words-requires c =
    let z : Base = record { setting = c.args.setting; opening = c.args.map.now } in
    rw (c.of.ensures, c.as_slice.ensures.value)
    (rule_at_first z _ (fits_ready c.args.setting c.args.map.now c.of-plan.ensures.bitmap
    c.requires) c.in_ok-list.ensures)

pub deal_all-requires-clause-of : goal.deal_all-requires-clause-of
deal_all-requires-clause-of c =
    let z : Base = record { setting = c.args.setting; opening = c.args.map.now } in
    let made = c.in_ok-table.ensures in
    let shared = c.in_ok-words.ensures.ok in
    let words = c.in_ok-list.ensures in
    let ready = fits_ready c.args.setting c.args.map.now c.of-plan.ensures.bitmap c.requires in
    let key = rw c.of.ensures at made.5 in
    search (rules, is_of_new)

pub invariant_of-result : goal.invariant_of-result
invariant_of-result c =
    let z : Base = record { setting = c.args.setting; opening = c.args.map.now } in
    let made = c.in_ok-table.ensures in
    let shared = c.in_ok-words.ensures.ok in
    let dealt = c.in_ok-readers.ensures {u = tt} in
    let words = c.in_ok-list.ensures in
    let ready = fits_ready c.args.setting c.args.map.now c.of-plan.ensures.bitmap c.requires in
    (search (rules, is_of_new), dealt.keeper)
