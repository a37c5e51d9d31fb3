-- What is held after a paint or a stamp, and after a revert.
use Rattle.desk.proofs.Names.{◌≡◌, ℕ, ◌+◌, true, false, List, [], length, refl, ap, sym, ◌∙◌, arith}
use Rattle.desk.proofs.Names.{Option, Some, None, length-map, Refusal, Command, Revert, Checkpoint}
use Rattle.desk.proofs.Names.{Entry, Reply, Painted, Reverted, Checkpointed, Ledger, Setting}
use Rattle.desk.proofs.Names.{IsDraw, Story, newest, bitmap_of, needed, refused, refused_blocks}
use Rattle.desk.proofs.Names.{IsAnswer, told, after_draw, Blocks, directory_of, moved, drawn_blocks}
use Rattle.desk.proofs.Names.{refused_by_ledger, refused_draw_blocks, Base, story, blocks, IsTidy}
use Rattle.desk.proofs.Names.{refused_first, refused_next, refused_for_none, inside_told, told_draw}
use Rattle.desk.proofs.Names.{ledger_draw, ledger_revert, ledger_checkpoint, reply_is_answer, Draws}
use Rattle.desk.proofs.Names.{Reverts, draft, own_blocks, needed_by, refused_by, block_if, Holding}
use Rattle.desk.proofs.Names.{Judged, IsJudged, summary_of, Holds, IsToldByLog, Judges, Does}
use Rattle.events.proofs.steps.Events.{reply_draw}
use Rattle.events.proofs.logs.SummaryDraw.{IsDrawnOn, moved_draw, summary_draw, summary_revert}
use Rattle.events.proofs.logs.SummaryDraw.{summary_checkpoint}
use Rattle.events.proofs.invariants.TidyDraft.{free_is}
use Rattle.desk.proofs.HoldLemmas.{tidy_told, told_more, holds_draft}
use Rattle.events.specs.Drawing.{touched, is_inside, draws as is_draw}
use Rattle.desk.specs.declared.holding.judged.Judged.TheVariants as kinds

-- a paint or a stamp needs as many blocks by the grid as by the log
needed_is : (k : Base) (s : Story) (m : Blocks) (h : Holding) (c : Command) → IsTidy k s m
    → Holds k s m h → needed_by h.grid c ≡ needed s c
unfolding needed
needed_is k s m h c tidy holds = let kept = holds.summary in rw (
  kept.draft_is,
  kept.own_is,
  ← tidy.shape.changed,
) refl

-- a paint or a stamp in the map is refused by the grid as by the log
refused_is : (k : Base) (s : Story) (m : Blocks) (h : Holding) (c : Command) → IsTidy k s m
    → Holds k s m h → is_inside s.draft c ≡ true
    → refused_by h.grid h.arena.free c ≡ refused_blocks k.setting s c
refused_is k s m h c tidy holds inside =
    let kept = holds.summary in
    let all = free_is k s m tidy in
    let same = ap length kept.free_is in
    let need = needed_is k s m h c tidy holds in
    let lies = rw (← kept.draft_is) at inside in
    grind arith

-- what the grid draws is drawn on what is kept of the log
drawn_on : (old new : Holding) (c : Command) (changed : ℕ)
    → Draws old.grid old.arena.free c changed new.grid new.arena.free
    → IsDrawnOn (summary_of old) c (draft new.grid) (own_blocks new.grid) new.arena.free
unfolding touched
drawn_on old new c changed drew = record {
  draft_is = drew.draft_is;
  own_is = rw (← drew.draft_is) at drew.own_is;
  free_is = rw (← drew.draft_is) at drew.free_is;
}

-- what the grid answers to a paint or a stamp that the ledger doesn't refuse is what the log says
judged_draw : (k : Base) (log : List Entry) (h : Holding) (c : Command) (answer : Option Refusal)
    → IsToldByLog k log h → IsDraw c → refused_by_ledger h.ledger c ≡ None
    → refused_by h.grid h.arena.free c ≡ answer → answer ≡ refused k.setting (story k log) c
judged_draw k log h c answer tells draws by is =
    let s = story k log in
    let tidy = tidy_told k log h tells in
    let ledger_is = tells.holds.summary.ledger_is in
    rw (refused_next k s h.ledger ledger_is tidy.draft c by, as_draw k.setting s c draws)
    (sym is ∙ refused_is k s (blocks k log) h c tidy tells.holds
    (inside_told k s h.ledger ledger_is tidy.draft c by))
  where
    as_draw : (g : Setting) (s : Story) (c : Command) → IsDraw c
        → refused_draw_blocks g s c ≡ refused_blocks g s c
    as_draw g s c draws = grind arith

-- a command that draws nothing isn't refused where the ledger doesn't refuse it
pub judged_other : (k : Base) (log : List Entry) (h : Holding) (c : Command) → IsToldByLog k log h
    → is_draw c ≡ false → refused_by_ledger h.ledger c ≡ None
    → None ≡ refused k.setting (story k log) c
judged_other k log h c tells other by =
    sym (refused_next k (story k log) h.ledger tells.holds.summary.ledger_is
    (tidy_told k log h tells).draft c by ∙ refused_for_none k.setting (story k log) c other)

-- a refusal of the ledger says why a command is refused
pub judged_why : (h : Holding) (c : Command) (refusal : Refusal)
    → refused_by_ledger h.ledger c ≡ Some refusal → Judges h c (Some refusal)
judged_why h c refusal by =
    λ k log tells. sym (refused_first k (story k log) h.ledger tells.holds.summary.ledger_is
    (tidy_told k log h tells).draft c refusal by)

-- a command that is judged as one to carry out isn't refused
pub judged_none : (h : Holding) (c : Command) (j : Judged) → IsJudged h c j → Judges h c None
judged_none h c (kinds.Draw stroke) judged =
    λ k log tells. judged_draw k log h c None tells judged.kind.0 judged.by judged.kind.1.accepted
judged_none h c _ judged =
    λ k log tells. judged_other k log h c tells (ap is_draw judged.kind) judged.by

-- a refusal of the grid says why a paint or a stamp is refused that the ledger doesn't refuse
pub drawing_why : (h : Holding) (c as' : Command) (refusal : Refusal) → IsDraw as'
    → refused_by_ledger h.ledger c ≡ None → c ≡ as'
    → refused_by h.grid h.arena.free as' ≡ Some refusal → Judges h c (Some refusal)
drawing_why h c as' refusal draws by same why = λ k log tells.
    judged_draw k log h c (Some refusal) tells (rw same draws) by (rw same why)

-- a paint or a stamp that the grid has drawn does what its reply says
pub draw_done : (old new : Holding) (c : Command) (changed : ℕ) (reply : Reply) → IsDraw c
    → refused_by_ledger old.ledger c ≡ None → refused_by old.grid old.arena.free c ≡ None
    → Draws old.grid old.arena.free c changed new.grid new.arena.free
    → new.arena.home ≡ old.arena.home
    → new.ledger ≡ record old.ledger { places = old.ledger.places + 1 }
    → reply ≡ Painted (old.ledger.places + 1) changed → Does old c reply new
unfolding newest bitmap_of directory_of
draw_done old new c changed reply draws by passed drew home entered said k log tells =
    let s = story k log in
    let m = blocks k log in
    let tidy = tidy_told k log old tells in
    let kept = tells.holds.summary in
    let reply_is = reply_draw k s old.ledger c [] changed reply kept.ledger_is draws said
    (rw kept.draft_is at drew.changed_is) in
    let answer : IsAnswer k.setting s c reply =
    rw reply_is (reply_is_answer k s m tidy c []
    (sym (judged_draw k log old c None tells draws by passed))) in
    let ledger = ledger_draw k s old.ledger new.ledger c reply kept.ledger_is draws entered in
    let summary = summary_draw k s m (summary_of old) c reply new.ledger (draft new.grid)
    (own_blocks new.grid) new.arena.free kept tidy.shape.changed draws ledger
    (drawn_on old new c changed drew) in
    let told_is = told_draw s c reply draws in
    let moved_is = moved_draw s c reply m draws in (
      answer,
      told_more k log old new c reply tells answer
          (rw (told_is, moved_is) (holds_draft k s (after_draw s c) m (drawn_blocks s c m) old new
          tells.holds drew.others home (rw (told_is, moved_is) at summary) refl refl (λ v. refl)
          refl)),
    )

-- a revert of the grid does what its reply says
pub revert_done : (old new : Holding) (reply : Reply) → refused_by_ledger old.ledger Revert ≡ None
    → Reverts old.grid old.arena.free new.grid new.arena.free → new.arena.home ≡ old.arena.home
    → new.ledger ≡ record old.ledger { places = old.ledger.places + 1 }
    → reply ≡ Reverted (old.ledger.places + 1) → Does old Revert reply new
unfolding told moved newest bitmap_of directory_of
revert_done old new reply by reverted home entered said k log tells =
    let s = story k log in
    let m = blocks k log in
    let tidy = tidy_told k log old tells in
    let ledger_is = tells.holds.summary.ledger_is in
    let answer : IsAnswer k.setting s Revert reply = record {
      accepted = refused_next k s old.ledger ledger_is tidy.draft Revert by;
      reply_is = cc;
    } in
    let ledger = ledger_revert k s old.ledger new.ledger reply ledger_is entered in
    let summary = summary_revert k s m (summary_of old) reply new.ledger (draft new.grid)
    (own_blocks new.grid) new.arena.free tells.holds.summary ledger reverted.draft_is
    (rw (length-map old.grid.own block_if) reverted.own_is) reverted.free_is in (
      answer,
      told_more k log old new Revert reply tells answer
          (holds_draft k s (told s Revert reply) m (moved s Revert reply m) old new tells.holds
          reverted.others home summary refl refl (λ v. refl) refl),
    )

-- a checkpoint of the ledger does what its reply says
pub checkpoint_done : (old new : Holding) (ledger : Ledger) (reply : Reply)
    → refused_by_ledger old.ledger Checkpoint ≡ None → new ≡ record old { ledger = ledger }
    → ledger ≡ record old.ledger { places = old.ledger.places + 1; base = old.ledger.places + 1 }
    → reply ≡ Checkpointed (old.ledger.places + 1) → Does old Checkpoint reply new
unfolding told moved newest bitmap_of directory_of
checkpoint_done old new ledger reply by new_is entered said k log tells =
    let s = story k log in
    let m = blocks k log in
    let tidy = tidy_told k log old tells in
    let ledger_is = tells.holds.summary.ledger_is in
    let answer : IsAnswer k.setting s Checkpoint reply = record {
      accepted = refused_next k s old.ledger ledger_is tidy.draft Checkpoint by;
      reply_is = cc;
    } in
    let next = ledger_checkpoint k s old.ledger ledger reply ledger_is entered in
    let summary = summary_checkpoint k s m (summary_of old) reply ledger tells.holds.summary next
    in (
      answer,
      rw new_is (told_more k log old (record old { ledger = ledger }) Checkpoint reply tells answer
          (holds_draft k s (told s Checkpoint reply) m (moved s Checkpoint reply m) old _
          tells.holds refl refl summary refl refl (λ v. refl) refl)),
    )
