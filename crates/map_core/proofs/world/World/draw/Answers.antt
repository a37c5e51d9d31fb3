-- The step of a paint or a stamp is safe: the command finds its blocks, and what is kept tells the
-- log with its entry.
use Rattle.map_core.proofs.Names.{◌≡◌, arith, refl, ap, subst, sym, ◌∙◌, length, Cells, IsBitmap}
use Rattle.map_core.proofs.Names.{drawn, Ledger}
use Rattle.map_core.proofs.CommitWorld.{last_does, consistent_commit, place_in_hand}
use Rattle.events.proofs.steps.Events.{reply_draw, written_back}
use Rattle.map_core.proofs.DrawWorld.{drawing_known, hand_inside, count_draw}
use Rattle.map_core.proofs.JudgeLemmas.{balanced_ledger, draft_of_map, same_width, same_height}
use Rattle.map_core.proofs.JudgeLemmas.{drawn_of_map, own_long}
use Rattle.events.proofs.logs.LedgerLemmas.{ledger_draw, now_of_ledger}
use Rattle.events.proofs.steps.StepLemmas.{tidy_of}
use Rattle.events.proofs.logs.SummaryDraw.{summary_draw}
use Rattle.events.proofs.invariants.TidyDraft.{tile_count-of_map}
use Rattle.map_core.proofs.WorldLemmas.{safe_done, now_word_there, now_room}
use Rattle.map_core.proofs.world.World.draw.Goals as goal

pub copy_from-requires-clause-width : goal.copy_from-requires-clause-width
copy_from-requires-clause-width c = same_width c.self.invariant

pub copy_from-requires-clause-height : goal.copy_from-requires-clause-height
copy_from-requires-clause-height c = same_height c.self.invariant

pub draw-changed-requires-clause-inside : goal.draw-changed-requires-clause-inside
draw-changed-requires-clause-inside c =
    hand_inside c.self.invariant c.in-Some.command c.self.inside.done _ _
    refl (sym c.take.ensures.value ∙ c.in-Some.is) c.copy_from.ensures

pub draw-changed-requires-clause-bitmap : goal.draw-changed-requires-clause-bitmap
draw-changed-requires-clause-bitmap c =
    subst (λ (b : Cells). IsBitmap b) (sym c.copy_from.ensures)
    (draft_of_map c.self.invariant).bitmap

pub take_blocks-requires-clause-new : goal.take_blocks-requires-clause-new
take_blocks-requires-clause-new c =
    tile_count-of_map _ _ (drawn_of_map c.self.invariant _ _ c.in-Some.command c.copy_from.ensures
    c.draw-changed.ensures.drawn) ∙ sym (tile_count-of_map _ _ (draft_of_map c.self.invariant))

pub take_blocks-requires-clause-own : goal.take_blocks-requires-clause-own
take_blocks-requires-clause-own c =
    ap length c.as_mut_slice.ensures.value ∙ own_long c.self.invariant

pub copy_from-requires-2-clause-width : goal.copy_from-requires-2-clause-width
copy_from-requires-2-clause-width c =
    (draft_of_map c.self.invariant).width_is ∙ sym (drawn_of_map c.self.invariant _ _
    c.in-Some.command c.copy_from.ensures c.draw-changed.ensures.drawn).width_is

pub copy_from-requires-2-clause-height : goal.copy_from-requires-2-clause-height
copy_from-requires-2-clause-height c =
    (draft_of_map c.self.invariant).height_is ∙ sym (drawn_of_map c.self.invariant _ _
    c.in-Some.command c.copy_from.ensures c.draw-changed.ensures.drawn).height_is

pub enter_draw-reply-requires : goal.enter_draw-reply-requires
enter_draw-reply-requires c =
    place_in_hand c.self.invariant _ _ _ refl (sym c.take.ensures.value ∙ c.in-Some.is)

pub index_mut-requires : goal.index_mut-requires
index_mut-requires c = omega (arith, now_word_there c.self.invariant, c.self.inside.words.ok)

pub invariant_of-self : goal.invariant_of-self
invariant_of-self c =
    let known = drawing_known c.args.self.now _ _ _ _ _ c.self.view_is refl c.requires
    (sym c.take.ensures.value ∙ c.in-Some.is) in
    let entered = ledger_draw _ _ _ c.enter_draw-reply.new.self _ c.enter_draw-reply.result
    c.self.invariant.summary.ledger_is known.draws c.enter_draw-reply.ensures.entered in
    let size : length c.take_blocks.new.own ≡ length c.self.inside.own.items =
    omega (arith, ap length c.as_mut_slice.ensures.value) in
    let does = last_does _ _ _ _ _ _ _ _ _ _ _ _ _ c.commit.new.now c.self.invariant known.last
    (reply_draw _ _ _ _ _ _ _ c.self.invariant.summary.ledger_is known.draws
    c.enter_draw-reply.ensures.reply
    (count_draw c.self.invariant _ _ _ c.copy_from.ensures
    c.draw-changed.ensures.changed))
    (now_of_ledger _ _ _ _ entered c.commit.ensures.now) in
    rw (c.commit.ensures.log, c.take.ensures.after)
    (consistent_commit _ _ _ _ _ _ _ _ _ _ _ _ _ _ _ _ _ c.self.invariant does
    (summary_draw _ _ _ _ _ _ _ _ _ _ c.self.invariant.summary
    (tidy_of _ c.self.invariant.whole).shape.changed known.draws
    entered
    record {
      draft_is = c.copy_from-2.ensures
          ∙ (c.draw-changed.ensures.drawn
          ∙ ap (λ (b : Cells). drawn b c.in-Some.command) c.copy_from.ensures);
      own_is = written_back _ _ _ _ (omega (arith, c.self.inside.own.ok)) size
          ∙ (rw (c.copy_from-2.ensures, ← c.as_mut_slice.ensures.value) c.take_blocks.ensures.own);
      free_is = rw (c.copy_from-2.ensures, ← c.as_mut_slice.ensures.value)
          c.take_blocks.ensures.free;
    })
    (omega arith) (omega (arith, c.take_blocks.ensures.capacity)) (omega arith)
    (drawn_of_map c.self.invariant _ _ c.in-Some.command c.copy_from.ensures
    c.draw-changed.ensures.drawn))

pub returns : goal.returns
returns c =
    let known = drawing_known c.args.self.now _ _ _ _ _ c.self.view_is refl c.requires
    (sym c.take.ensures.value ∙ c.in-Some.is) in
    let entered = ledger_draw _ _ _ c.enter_draw-reply.new.self _ c.enter_draw-reply.result
    c.self.invariant.summary.ledger_is known.draws c.enter_draw-reply.ensures.entered in
    rw (
      ← c.self.view_is,
      ap (λ (l : Ledger). l.setting) c.enter_draw-reply.ensures.entered,
      c.commit.ensures.log,
      c.commit.ensures.reply,
      c.take.ensures.after,
    )
    (safe_done _ _ _ c.self.invariant.whole
    (last_does _ _ _ _ _ _ _ _ _ _ _ _ _ c.commit.new.now c.self.invariant known.last
    (reply_draw _ _ _ _ _ _ _ c.self.invariant.summary.ledger_is known.draws
    c.enter_draw-reply.ensures.reply
    (count_draw c.self.invariant _ _ _ c.copy_from.ensures
    c.draw-changed.ensures.changed))
    (now_of_ledger _ _ _ _ entered c.commit.ensures.now)))

pub commit-requires-clause-now : goal.commit-requires-clause-now
commit-requires-clause-now c =
    now_room _ _ (balanced_ledger c.self.invariant)
    (place_in_hand c.self.invariant _ _ _ refl
    (sym c.take.ensures.value ∙ c.in-Some.is)) c.enter_draw-reply.ensures.entered
