-- The one step of a checkpoint is safe: NOW has room for it, and what is kept tells the log with
-- its entry.
use Rattle.map_core.proofs.Names.{ap, arith, refl, Ledger}
use Rattle.map_core.proofs.CommitWorld.{last_known, last_does, consistent_commit, place_of_last}
use Rattle.map_core.proofs.CommitWorld.{reply_checkpoint}
use Rattle.map_core.proofs.JudgeLemmas.{balanced_ledger}
use Rattle.events.proofs.logs.LedgerLemmas.{ledger_checkpoint, now_of_ledger}
use Rattle.events.proofs.logs.SummaryDraw.{summary_checkpoint}
use Rattle.map_core.proofs.WorldLemmas.{safe_done, now_word_there, now_room_same}
use Rattle.map_core.proofs.world.World.checkpoint.Goals as goal

pub enter_checkpoint-reply-requires : goal.enter_checkpoint-reply-requires
enter_checkpoint-reply-requires c =
    place_of_last c.self.invariant _ _ c.self.view_is refl c.requires

pub commit-requires-clause-now : goal.commit-requires-clause-now
commit-requires-clause-now c =
    let entered = c.enter_checkpoint-reply.ensures.entered in
    let place = place_of_last c.self.invariant _ _ c.self.view_is refl c.requires in
    now_room_same _ _ (balanced_ledger c.self.invariant) place
    (ap (λ (l : Ledger). l.places) entered) (ap (λ (l : Ledger). l.newest) entered)
    (ap (λ (l : Ledger). l.slot) entered)

pub index_mut-requires : goal.index_mut-requires
index_mut-requires c = omega (arith, now_word_there c.self.invariant, c.self.inside.words.ok)

pub invariant_of-self : goal.invariant_of-self
invariant_of-self c =
    let known = last_known c.self.inside.hand _ _ c.self.view_is refl c.requires in
    let entered = ledger_checkpoint _ _ _ c.enter_checkpoint-reply.new.self
    c.enter_checkpoint-reply.result c.self.invariant.summary.ledger_is
    c.enter_checkpoint-reply.ensures.entered in
    let does = last_does _ _ _ _ _ _ _ _ _ _ _ _ _ c.commit.new.now c.self.invariant known
    (reply_checkpoint _ _ _ _ _ c.self.invariant.summary.ledger_is
    c.enter_checkpoint-reply.ensures.reply) (now_of_ledger _ _ _ _ entered c.commit.ensures.now)
    in
    rw (c.commit.ensures.log)
    (consistent_commit _ _ _ _ _ _ _ _ _ _ _ _ _ _ _ _ _ c.self.invariant does
    (summary_checkpoint _ _ _ _ _ _ c.self.invariant.summary entered)
    (omega arith) (omega arith) (omega arith) c.self.invariant.roomy.scratch)

pub returns : goal.returns
returns c =
    let known = last_known c.self.inside.hand _ _ c.self.view_is refl c.requires in
    let entered = ledger_checkpoint _ _ _ c.enter_checkpoint-reply.new.self
    c.enter_checkpoint-reply.result c.self.invariant.summary.ledger_is
    c.enter_checkpoint-reply.ensures.entered in
    rw (
      ← c.self.view_is,
      ap (λ (l : Ledger). l.setting) c.enter_checkpoint-reply.ensures.entered,
      c.commit.ensures.log,
      c.commit.ensures.reply,
    )
    (safe_done _ _ _ c.self.invariant.whole
    (last_does _ _ _ _ _ _ _ _ _ _ _ _ _ c.commit.new.now c.self.invariant known
    (reply_checkpoint _ _ _ _ _ c.self.invariant.summary.ledger_is
    c.enter_checkpoint-reply.ensures.reply) (now_of_ledger _ _ _ _ entered c.commit.ensures.now)))
