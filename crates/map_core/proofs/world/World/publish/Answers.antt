-- The last step of a publish is safe: the directory is stored, and what is kept tells the log with
-- its entry.
use Rattle.map_core.proofs.Names.{arith, refl, ap, sym, ◌∙◌, length, Publish, Ledger}
use Rattle.map_core.proofs.CommitWorld.{last_known, last_does, consistent_commit, newest_part}
use Rattle.map_core.proofs.CommitWorld.{published_of_map, place_of_last, version_in_hand}
use Rattle.map_core.proofs.CommitWorld.{reply_publish, room_replaced, came_back, came_and_own}
use Rattle.map_core.proofs.CommitWorld.{own_few_places, directory_long, part_within, part_is}
use Rattle.map_core.proofs.CommitWorld.{part_small}
use Rattle.events.proofs.accounts.GiveBack.{cleared_back}
use Rattle.map_core.proofs.JudgeLemmas.{draft_of_map, balanced_ledger}
use Rattle.events.proofs.logs.LedgerLemmas.{ledger_publish, now_of_ledger}
use Rattle.events.proofs.steps.StepLemmas.{tidy_of}
use Rattle.events.proofs.logs.SummaryPublish.{summary_publish, newest_published, slots_published}
use Rattle.map_core.proofs.WorldLemmas.{safe_done, next_room, accepted_in, now_room_published}
use Rattle.map_core.proofs.KeepWorld.{consistent_of, newest_few, newest_kept}
use Rattle.map_core.proofs.world.World.publish.Goals as goal

pub map_at-first-requires-clause-kept : goal.map_at-first-requires-clause-kept
map_at-first-requires-clause-kept c =
    newest_kept (consistent_of c.self.view_is c.self.invariant)

pub enter_publish-reply-requires-clause-balanced : goal.enter_publish-reply-requires-clause-balanced
enter_publish-reply-requires-clause-balanced c = balanced_ledger c.self.invariant

pub enter_publish-reply-requires-clause-place : goal.enter_publish-reply-requires-clause-place
enter_publish-reply-requires-clause-place c =
    place_of_last c.self.invariant _ _ c.self.view_is refl c.requires

pub enter_publish-reply-requires-clause-slot : goal.enter_publish-reply-requires-clause-slot
enter_publish-reply-requires-clause-slot c =
    let now = consistent_of c.self.view_is c.self.invariant in
    next_room c.args.self.now now.whole _ now.summary.ledger_is
    (accepted_in c.args.self.now c.requires.hand Publish now.whole c.requires.there
    c.requires.command)

pub commit-requires-clause-now : goal.commit-requires-clause-now
commit-requires-clause-now c =
    let now = consistent_of c.self.view_is c.self.invariant in
    let room = next_room c.args.self.now now.whole _ now.summary.ledger_is
    (accepted_in c.args.self.now c.requires.hand Publish now.whole c.requires.there
    c.requires.command) in
    now_room_published _ _ (balanced_ledger c.self.invariant)
    (place_of_last c.self.invariant _ _ c.self.view_is refl c.requires) room
    c.enter_publish-reply.ensures.entered

pub publish_own-requires-clause-newest : goal.publish_own-requires-clause-newest
publish_own-requires-clause-newest c =
    newest_few c.self.invariant (version_in_hand c.self.invariant _ _ _ refl
    (last_known c.self.inside.hand _ _ c.self.view_is refl c.requires).0)

pub publish_own-requires-clause-room : goal.publish_own-requires-clause-room
publish_own-requires-clause-room c =
    rw c.as_mut_slice.ensures.value (room_replaced c.self.invariant)

pub copy_from-requires-clause-width : goal.copy_from-requires-clause-width
copy_from-requires-clause-width c =
    (published_of_map c.self.invariant).width_is ∙ sym (draft_of_map c.self.invariant).width_is

pub copy_from-requires-clause-height : goal.copy_from-requires-clause-height
copy_from-requires-clause-height c =
    (published_of_map c.self.invariant).height_is ∙ sym (draft_of_map c.self.invariant).height_is

pub slice_bounds-publish_own-end : goal.slice_bounds-publish_own-end
slice_bounds-publish_own-end c =
    let part = newest_part _ _ _ _ _ c.self.view_is
    (c.from-tiles.ensures ∙ c.tiles.ensures.tiles) c.map_at-first.ensures.place in
    omega (
      arith,
      c.deref.ensures.len,
      c.self.inside.words.ok,
      part_within c.self.invariant _ _ part,
    )

pub publish_own-requires-clause-few : goal.publish_own-requires-clause-few
publish_own-requires-clause-few c =
    omega (
      arith,
      ap length c.as_mut_slice.ensures.value,
      own_few_places c.self.invariant,
    )

pub publish_own-requires-clause-directory : goal.publish_own-requires-clause-directory
publish_own-requires-clause-directory c =
    let part = newest_part _ _ _ _ _ c.self.view_is
    (c.from-tiles.ensures ∙ c.tiles.ensures.tiles) c.map_at-first.ensures.place in
    rw (
      c.deref.ensures.value,
      part_is c.self.invariant _ _ part,
      c.as_mut_slice.ensures.value,
    ) (directory_long c.self.invariant)

pub publish_own-requires-clause-blocks : goal.publish_own-requires-clause-blocks
publish_own-requires-clause-blocks c = λ p h.
    let part = newest_part _ _ _ _ _ c.self.view_is
    (c.from-tiles.ensures ∙ c.tiles.ensures.tiles) c.map_at-first.ensures.place in
    let small = part_small c.self.invariant p
    (omega (arith, ap length c.as_mut_slice.ensures.value)) in
    rw (c.deref.ensures.value, part_is c.self.invariant _ _ part) (omega arith)

pub publish_own-requires-clause-came : goal.publish_own-requires-clause-came
publish_own-requires-clause-came c =
    omega (
      arith,
      ap length c.as_mut_slice.ensures.value,
      ap length c.as_mut_slice-2.ensures.value,
      came_and_own c.self.invariant,
    )

pub invariant_of-self : goal.invariant_of-self
invariant_of-self c =
    let known = last_known c.self.inside.hand _ _ c.self.view_is refl c.requires in
    let tidy = tidy_of _ c.self.invariant.whole in
    let entered = ledger_publish _ _ _ c.enter_publish-reply.new.self c.enter_publish-reply.result
    c.self.invariant.summary.ledger_is (newest_published _ _ _ _ tidy.shape)
    (slots_published _ _ _ tidy) c.enter_publish-reply.ensures.entered in
    let part = newest_part _ _ _ _ _ c.self.view_is
    (c.from-tiles.ensures ∙ c.tiles.ensures.tiles) c.map_at-first.ensures.place in
    let does = last_does _ _ _ _ _ _ _ _ _ _ _ _ _ c.commit.new.now c.self.invariant known
    (reply_publish _ _ _ _ _ c.self.invariant.summary.ledger_is
    c.enter_publish-reply.ensures.reply) (now_of_ledger _ _ _ _ entered c.commit.ensures.now) in
    rw (c.commit.ensures.log)
    (consistent_commit _ _ _ _ _ _ _ _ _ _ _ _ _ _ _ _ _ c.self.invariant does
    (summary_publish _ _ _ _ _ _ _ _ _ _ c.self.invariant.summary tidy entered c.copy_from.ensures
    (cleared_back _ _ _ _ _ c.publish_own.ensures.own c.as_mut_slice.ensures.value
    (omega (arith, c.self.inside.own.ok)))
    (came_back _ _ _ _ _ _ _ _ c.publish_own.ensures.came c.as_mut_slice.ensures.value
    c.as_mut_slice-2.ensures.value (came_and_own c.self.invariant)
    (omega (arith, c.self.inside.came.ok)))
    (rw (
      ← c.as_mut_slice.ensures.value,
      ← c.as_mut_slice-2.ensures.value,
      ← part_is c.self.invariant _ _ part,
      ← c.deref.ensures.value,
    )
    c.publish_own.ensures.retired))
    (omega arith) (omega arith) (omega (arith, c.publish_own.ensures.capacity))
    c.self.invariant.roomy.scratch)

pub returns : goal.returns
returns c =
    let known = last_known c.self.inside.hand _ _ c.self.view_is refl c.requires in
    let tidy = tidy_of _ c.self.invariant.whole in
    let entered = ledger_publish _ _ _ c.enter_publish-reply.new.self c.enter_publish-reply.result
    c.self.invariant.summary.ledger_is (newest_published _ _ _ _ tidy.shape)
    (slots_published _ _ _ tidy) c.enter_publish-reply.ensures.entered in
    rw (
      ← c.self.view_is,
      ap (λ (l : Ledger). l.setting) c.enter_publish-reply.ensures.entered,
      c.commit.ensures.log,
      c.commit.ensures.reply,
    )
    (safe_done _ _ _ c.self.invariant.whole
    (last_does _ _ _ _ _ _ _ _ _ _ _ _ _ c.commit.new.now c.self.invariant known
    (reply_publish _ _ _ _ _ c.self.invariant.summary.ledger_is
    c.enter_publish-reply.ensures.reply) (now_of_ledger _ _ _ _ entered c.commit.ensures.now)))
