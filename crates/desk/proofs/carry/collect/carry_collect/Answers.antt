-- A current collect is worked: each round loads the next reader's word, and the log and the grid
-- agree after them.
use Rattle.desk.proofs.Names.{◌<◌, ap, arith, length, length-set, take_all, ◌∙◌, Setting}
use Rattle.desk.proofs.HoldOpen.{can_answer}
use Rattle.shelf.proofs.steps.WorkSteps.{next_scan, scan_more}
use Rattle.desk.proofs.ScanSteps.{collect_worked, few_versions, kept_computed, newest_kept}
use Rattle.desk.proofs.ScanSteps.{seen_long, scan_grows}
use Rattle.desk.proofs.carry.collect.carry_collect.Goals as goal

pub scan-word-requires : goal.scan-word-requires
scan-word-requires g c =
    let sessions = ap (λ (s : Setting). s.sessions)
    c.requires.in_hand.told.holds.summary.ledger_is.setting_is in
    let invariant = c.loop-reader.invariant in
    next_scan _ c.args.keeper.now _ c.args.by _ c.loop-reader.reader _ invariant.keeper
    (seen_long c.loop-reader.announced.items c.loop-reader.reader
    (omega (arith, invariant.place_each, sessions))) (omega arith) sessions

pub in_word-requires : goal.in_word-requires
in_word-requires g c =
    let there = rw c.loop-reader.invariant.keeper at c.scan-word.ensures.there in
    omega (
      arith,
      few_versions _ c.args.keeper.now _ _ c.requires.in_hand.told c.requires.judged,
    )

pub loop-reader-preserved : goal.loop-reader-preserved
loop-reader-preserved g c =
    let sessions = ap (λ (s : Setting). s.sessions)
    c.requires.in_hand.told.holds.summary.ledger_is.setting_is in
    let invariant = c.loop-reader.invariant in
    let inside : c.loop-reader.reader < length c.loop-reader.announced.items =
    omega (arith, invariant.place_each, sessions) in
    record {
      keeper = scan_more c.args.keeper.now _ _ c.args.by _ _ _ invariant.keeper
          c.scan-word.ensures.scanned
          (scan_grows c.loop-reader.announced.items c.loop-reader.reader _ c.in_word.result inside
          c.in_word.ensures);
      place_each = length-set c.loop-reader.announced.items c.loop-reader.reader c.in_word.result
          ∙ invariant.place_each;
    }

pub collect-requires-clause-newest : goal.collect-requires-clause-newest
collect-requires-clause-newest g c =
    c.kept_after-kept.ensures.newest (newest_kept _ c.args.keeper.now _ c.requires.in_hand.told)

pub collect-requires-clause-able : goal.collect-requires-clause-able
collect-requires-clause-able g c = can_answer _ _ _ c.requires.in_hand.told

pub returns-clause-worked : goal.returns-clause-worked
returns-clause-worked g c =
    let z = g.Id.StoreName.store in
    let k = c.args.keeper.now in
    let told = c.requires.in_hand.told in
    let sessions = ap (λ (s : Setting). s.sessions) told.holds.summary.ledger_is.setting_is in
    let invariant = c.loop-reader.invariant in
    let seen = c.loop-reader.announced.items in
    let all = take_all c.loop-reader.reader seen (omega (arith, invariant.place_each, sessions)) in
    collect_worked z k _ _ _ c.args.by _ seen _ c.requires.in_hand (rw all at invariant.keeper)
    invariant.place_each c.collect.ensures.done c.collect.ensures.kept
    (kept_computed z.base k _ _ seen _ told c.kept_after-kept.ensures.kept c.as_slice.ensures.value)
