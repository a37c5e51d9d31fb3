-- The last step of a collect is safe: what is kept after the blocks went back tells the log with
-- its entry.
use Rattle.map_core.proofs.Names.{ap, ◌≡◌, ◌-◌, arith, refl, length, map, Ledger, pin_word}
use Rattle.map_core.proofs.CommitWorld.{kept_collect, reply_collect, room_retired, stay_few}
use Rattle.map_core.proofs.CommitWorld.{choice_collect, last_known, last_does, place_of_last}
use Rattle.map_core.proofs.CommitWorld.{consistent_commit}
use Rattle.map_core.proofs.JudgeLemmas.{balanced_ledger}
use Rattle.events.proofs.logs.LedgerLemmas.{ledger_collect, now_of_ledger}
use Rattle.events.proofs.steps.StepLemmas.{tidy_of}
use Rattle.events.proofs.logs.SummaryCollect.{summary_collect, freed_collect}
use Rattle.map_core.proofs.WorldLemmas.{safe_done, now_word_there, now_room_same}
use Rattle.map_core.proofs.world.World.collect.Goals as goal

pub give_back_retired-requires : goal.give_back_retired-requires
give_back_retired-requires c = (room_retired c.self.invariant).0

pub overflow_sub-freed : goal.overflow_sub-freed
overflow_sub-freed c =
    omega (
      arith,
      c.len.ensures,
      c.len-before.ensures,
      c.self.inside.retired.ok,
      c.give_back_retired.new.retired.ok,
      stay_few c.after-kept.result c.self.inside.retired.items
          c.give_back_retired.new.retired.items c.give_back_retired.ensures.retired,
    )

pub overflow_cast-freed : goal.overflow_cast-freed
overflow_cast-freed c =
    omega (
      arith,
      c.len-before.ensures,
      c.self.inside.retired.ok,
      (room_retired c.self.invariant).1,
    )

pub enter_collect-reply-requires : goal.enter_collect-reply-requires
enter_collect-reply-requires c =
    place_of_last c.self.invariant _ _ c.self.view_is refl c.requires

pub commit-requires-clause-now : goal.commit-requires-clause-now
commit-requires-clause-now c =
    let entered = c.enter_collect-reply.ensures.entered in
    let place = place_of_last c.self.invariant _ _ c.self.view_is refl c.requires in
    now_room_same _ _ (balanced_ledger c.self.invariant) place
    (ap (λ (l : Ledger). l.places) entered) (ap (λ (l : Ledger). l.newest) entered)
    (ap (λ (l : Ledger). l.slot) entered)

pub index_mut-requires : goal.index_mut-requires
index_mut-requires c = omega (arith, now_word_there c.self.invariant, c.self.inside.words.ok)

pub invariant_of-self : goal.invariant_of-self
invariant_of-self c =
    let known = last_known c.self.inside.hand _ _ c.self.view_is refl c.requires in
    let ledger = c.self.invariant.summary.ledger_is in
    let entered = ledger_collect _ _ _ c.enter_collect-reply.new.self c.enter_collect-reply.result _
    _ _ c.after-kept.result ledger c.enter_collect-reply.ensures.reply
    c.enter_collect-reply.ensures.entered in
    let kept_is = kept_collect _ _ _ c.self.inside.scanned.items c.after-kept.result ledger
    (rw (← c.as_slice.ensures.value) c.after-kept.ensures.kept) in
    let choice = choice_collect c.self.invariant (map pin_word c.self.inside.scanned.items)
    c.after-kept.result kept_is in
    let tidy = tidy_of _ c.self.invariant.whole in
    let count : c.len-before.result - c.len.result
    ≡ length c.self.inside.retired.items - length c.give_back_retired.new.retired.items =
    omega (
      arith,
      c.len.ensures,
      c.len-before.ensures,
      c.self.inside.retired.ok,
      c.give_back_retired.new.retired.ok,
    ) in
    let freed = freed_collect _ _ _ _ _ _ _ tidy c.self.invariant.summary choice
    c.give_back_retired.ensures.retired count in
    let does = last_does _ _ _ _ _ _ _ _ _ _ _ _ _ c.commit.new.now c.self.invariant known
    (reply_collect _ _ _ _ _ _ _ ledger c.enter_collect-reply.ensures.reply kept_is freed)
    (now_of_ledger _ _ _ _ entered c.commit.ensures.now) in
    rw (c.commit.ensures.log)
    (consistent_commit _ _ _ _ _ _ _ _ _ _ _ _ _ _ _ _ _ c.self.invariant does
    (summary_collect _ _ _ _ _ _ _ _ _ _ _ _ c.self.invariant.summary
    c.enter_collect-reply.ensures.reply entered c.give_back_retired.ensures.retired
    c.give_back_retired.ensures.free)
    (omega arith) (omega (arith, c.give_back_retired.ensures.free_capacity))
    (omega (arith, c.give_back_retired.ensures.retired_capacity)) c.self.invariant.roomy.scratch)

pub returns : goal.returns
returns c =
    let known = last_known c.self.inside.hand _ _ c.self.view_is refl c.requires in
    let ledger = c.self.invariant.summary.ledger_is in
    let entered = ledger_collect _ _ _ c.enter_collect-reply.new.self c.enter_collect-reply.result _
    _ _ c.after-kept.result ledger c.enter_collect-reply.ensures.reply
    c.enter_collect-reply.ensures.entered in
    let kept_is = kept_collect _ _ _ c.self.inside.scanned.items c.after-kept.result ledger
    (rw (← c.as_slice.ensures.value) c.after-kept.ensures.kept) in
    let choice = choice_collect c.self.invariant (map pin_word c.self.inside.scanned.items)
    c.after-kept.result kept_is in
    let tidy = tidy_of _ c.self.invariant.whole in
    let count : c.len-before.result - c.len.result
    ≡ length c.self.inside.retired.items - length c.give_back_retired.new.retired.items =
    omega (
      arith,
      c.len.ensures,
      c.len-before.ensures,
      c.self.inside.retired.ok,
      c.give_back_retired.new.retired.ok,
    ) in
    let freed = freed_collect _ _ _ _ _ _ _ tidy c.self.invariant.summary choice
    c.give_back_retired.ensures.retired count in
    rw (
      ← c.self.view_is,
      ap (λ (l : Ledger). l.setting) c.enter_collect-reply.ensures.entered,
      c.commit.ensures.log,
      c.commit.ensures.reply,
    )
    (safe_done _ _ _ c.self.invariant.whole
    (last_does _ _ _ _ _ _ _ _ _ _ _ _ _ c.commit.new.now c.self.invariant known
    (reply_collect _ _ _ _ _ _ _ ledger c.enter_collect-reply.ensures.reply kept_is freed)
    (now_of_ledger _ _ _ _ entered c.commit.ensures.now)))
