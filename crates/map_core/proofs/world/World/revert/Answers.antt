-- The last step of a revert is safe: its blocks go back, and what is kept tells the log with its
-- entry.
use Rattle.map_core.proofs.Names.{ap, arith, refl, sym, ◌∙◌, Ledger}
use Rattle.map_core.proofs.CommitWorld.{last_known, last_does, consistent_commit, room_back}
use Rattle.map_core.proofs.CommitWorld.{published_of_map, place_of_last, reply_revert}
use Rattle.events.proofs.accounts.GiveBack.{cleared_back}
use Rattle.map_core.proofs.JudgeLemmas.{draft_of_map, balanced_ledger}
use Rattle.events.proofs.logs.LedgerLemmas.{ledger_revert, now_of_ledger}
use Rattle.events.proofs.logs.SummaryDraw.{summary_revert}
use Rattle.map_core.proofs.WorldLemmas.{safe_done, now_word_there, now_room}
use Rattle.map_core.proofs.world.World.revert.Goals as goal

pub copy_from-requires-clause-width : goal.copy_from-requires-clause-width
copy_from-requires-clause-width c =
    (draft_of_map c.self.invariant).width_is ∙ sym (published_of_map c.self.invariant).width_is

pub copy_from-requires-clause-height : goal.copy_from-requires-clause-height
copy_from-requires-clause-height c =
    (draft_of_map c.self.invariant).height_is ∙ sym (published_of_map c.self.invariant).height_is

pub give_back_own-requires : goal.give_back_own-requires
give_back_own-requires c = rw c.as_mut_slice.ensures.value (room_back c.self.invariant)

pub enter_revert-reply-requires : goal.enter_revert-reply-requires
enter_revert-reply-requires c =
    place_of_last c.self.invariant _ _ c.self.view_is refl c.requires

pub index_mut-requires : goal.index_mut-requires
index_mut-requires c = omega (arith, now_word_there c.self.invariant, c.self.inside.words.ok)

pub invariant_of-self : goal.invariant_of-self
invariant_of-self c =
    let known = last_known c.self.inside.hand _ _ c.self.view_is refl c.requires in
    let entered = ledger_revert _ _ _ c.enter_revert-reply.new.self c.enter_revert-reply.result
    c.self.invariant.summary.ledger_is c.enter_revert-reply.ensures.entered in
    let does = last_does _ _ _ _ _ _ _ _ _ _ _ _ _ c.commit.new.now c.self.invariant known
    (reply_revert _ _ _ _ _ c.self.invariant.summary.ledger_is c.enter_revert-reply.ensures.reply)
    (now_of_ledger _ _ _ _ entered c.commit.ensures.now) in
    rw (c.commit.ensures.log)
    (consistent_commit _ _ _ _ _ _ _ _ _ _ _ _ _ _ _ _ _ c.self.invariant does
    (summary_revert _ _ _ _ _ _ _ _ _ c.self.invariant.summary entered c.copy_from.ensures
    (cleared_back _ _ _ _ _ c.give_back_own.ensures.own c.as_mut_slice.ensures.value
    (omega (arith, c.self.inside.own.ok)))
    (rw (← c.as_mut_slice.ensures.value) c.give_back_own.ensures.free))
    (omega arith) (omega (arith, c.give_back_own.ensures.capacity))
    (omega arith) c.self.invariant.roomy.scratch)

pub returns : goal.returns
returns c =
    let known = last_known c.self.inside.hand _ _ c.self.view_is refl c.requires in
    let entered = ledger_revert _ _ _ c.enter_revert-reply.new.self c.enter_revert-reply.result
    c.self.invariant.summary.ledger_is c.enter_revert-reply.ensures.entered in
    rw (
      ← c.self.view_is,
      ap (λ (l : Ledger). l.setting) c.enter_revert-reply.ensures.entered,
      c.commit.ensures.log,
      c.commit.ensures.reply,
    )
    (safe_done _ _ _ c.self.invariant.whole
    (last_does _ _ _ _ _ _ _ _ _ _ _ _ _ c.commit.new.now c.self.invariant known
    (reply_revert _ _ _ _ _ c.self.invariant.summary.ledger_is c.enter_revert-reply.ensures.reply)
    (now_of_ledger _ _ _ _ entered c.commit.ensures.now)))

pub commit-requires-clause-now : goal.commit-requires-clause-now
commit-requires-clause-now c =
    now_room _ _ (balanced_ledger c.self.invariant)
    (place_of_last c.self.invariant _ _ c.self.view_is refl c.requires)
    c.enter_revert-reply.ensures.entered
