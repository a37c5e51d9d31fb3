-- What is held after a publish.
use Rattle.desk.proofs.Names.{◌≡◌, ℕ, ◌+◌, arith, None, length-map, inl, inr, Publish, Reply}
use Rattle.desk.proofs.Names.{Published, first_free, with_version, Story, bitmap_of, IsKept}
use Rattle.desk.proofs.Names.{IsAnswer, told, Blocks, moved, refused_by_ledger, IsSummary, Base}
use Rattle.desk.proofs.Names.{story, blocks, IsTidy, refused_next, ledger_publish, Seals, bitmap_at}
use Rattle.desk.proofs.Names.{own_blocks, retired_blocks, block_if, Holding, summary_of, Holds}
use Rattle.desk.proofs.Names.{Does, rules}
use Rattle.events.proofs.logs.SummaryPublish.{newest_published, slots_published, summary_publish}
use Rattle.events.proofs.invariants.TidyPublish.{newest-publish, bitmap_of-publish, bitmap_of-new}
use Rattle.events.proofs.invariants.TidyPublish.{directory_of-new, kept_published}
use Rattle.desk.proofs.HoldLemmas.{tidy_told, told_more}

-- after a publish the grid has the bitmap of each version that is kept
versions_published : (k : Base) (s : Story) (m : Blocks) (old new : Holding) (reply : Reply)
    → IsTidy k s m → Holds k s m old → Seals old.grid new.grid
    → (v : ℕ) → IsKept (told s Publish reply) v
    → bitmap_at new.grid v ≡ bitmap_of (told s Publish reply) v
unfolding told IsKept
versions_published k s m old new reply tidy holds seals v is_kept =
    let shape = tidy.shape in
    let next = newest-publish k s m shape in
    elim (kept_published s v is_kept) [
      | inr now ↦ grind (arith, bitmap_of-new k s m shape v now)
      | inl old_one ↦ grind (
        arith,
        tidy.slots.published v old_one,
        seals.versions v,
        holds.versions v old_one,
        bitmap_of-publish k s m shape v,
      )
    ]

-- after a publish the summary of what is held is the summary of the log
summary_sealed : (k : Base) (s : Story) (m : Blocks) (old new : Holding) (reply : Reply)
    → IsTidy k s m → Holds k s m old → Seals old.grid new.grid → new.arena ≡ old.arena
    → new.ledger ≡ record old.ledger {
      places = old.ledger.places + 1;
      newest = old.ledger.newest + 1;
      slot = first_free old.ledger.kept.slots;
      kept = with_version old.ledger.kept (old.ledger.newest + 1);
    }
    → IsSummary k (told s Publish reply) (moved s Publish reply m) (summary_of new)
summary_sealed k s m old new reply tidy holds seals arena entered =
    let kept = holds.summary in
    let newest_same : old.grid.newest ≡ old.ledger.newest = cc in
    let sealed = summary_publish k s m (summary_of old) reply new.ledger
    (bitmap_at new.grid new.grid.newest) new.grid.came (own_blocks new.grid)
    (retired_blocks new.grid) kept tidy
    (ledger_publish k s old.ledger new.ledger reply kept.ledger_is
    (newest_published k s m reply tidy.shape) (slots_published k s m tidy) entered)
    seals.bitmap_is (rw (length-map old.grid.own block_if) seals.own_is)
    (rw newest_same at seals.came_is)
    (rw (newest_same, holds.mapped) at seals.retired_is) in
    search (rules, arith, sealed)

-- after a publish what is held is what the log says
holds_sealed : (k : Base) (s : Story) (m : Blocks) (old new : Holding) (reply : Reply)
    → IsTidy k s m → Holds k s m old → Seals old.grid new.grid → new.arena ≡ old.arena
    → new.ledger ≡ record old.ledger {
      places = old.ledger.places + 1;
      newest = old.ledger.newest + 1;
      slot = first_free old.ledger.kept.slots;
      kept = with_version old.ledger.kept (old.ledger.newest + 1);
    }
    → Holds k (told s Publish reply) (moved s Publish reply m) new
unfolding told moved
holds_sealed k s m old new reply tidy holds seals arena entered =
    let next = newest-publish k s m tidy.shape in
    let summary = summary_sealed k s m old new reply tidy holds seals arena entered in
    let versions = versions_published k s m old new reply tidy holds seals in
    let directory = directory_of-new k s m tidy.shape _ next in
    search (rules, arith, versions, directory)

-- a publish of the grid does what its reply says
pub publish_done : (old new : Holding) (reply : Reply) → refused_by_ledger old.ledger Publish ≡ None
    → Seals old.grid new.grid → new.arena ≡ old.arena
    → new.ledger ≡ record old.ledger {
      places = old.ledger.places + 1;
      newest = old.ledger.newest + 1;
      slot = first_free old.ledger.kept.slots;
      kept = with_version old.ledger.kept (old.ledger.newest + 1);
    }
    → reply ≡ Published (old.ledger.places + 1) (old.ledger.newest + 1) → Does old Publish reply new
publish_done old new reply by seals arena entered said k log tells =
    let s = story k log in
    let tidy = tidy_told k log old tells in
    let ledger = tells.holds.summary.ledger_is in
    let answer : IsAnswer k.setting s Publish reply = record {
      accepted = refused_next k s old.ledger ledger tidy.draft Publish by;
      reply_is = cc;
    } in (
      answer,
      told_more k log old new Publish reply tells answer
          (holds_sealed k s (blocks k log) old new reply tidy tells.holds seals arena entered),
    )
