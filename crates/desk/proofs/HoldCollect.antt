-- What is held after a collect.
use Rattle.desk.proofs.Names.{◌≡◌, ℕ, ◌+◌, Bool, List, [], ◌∷◌, map, refl, ap, ◌∙◌, arith, None}
use Rattle.desk.proofs.Names.{Contains, filter, length-map, Collect, Reply, Collected, Kept}
use Rattle.desk.proofs.Names.{members, IsIn, IsPartOfKept, least_kept, Story, newest, bitmap_of}
use Rattle.desk.proofs.Names.{kept, IsKept, with_kept, inuse, IsAnswer, told, Blocks, directory_of}
use Rattle.desk.proofs.Names.{is_used, moved, refused_by_ledger, IsSummary, Base, story, blocks}
use Rattle.desk.proofs.Names.{IsTidy, freed_is, refused_next, ledger_collect, OldPiece, Sweeps}
use Rattle.desk.proofs.Names.{retired_of, retired_blocks, Holding, summary_of, Holds, Does, rules}
use Rattle.events.specs.declared.blocks.RetiredBlock.{RetiredBlock}
use Rattle.events.proofs.logs.SummaryCollect.{summary_swept}
use Rattle.events.proofs.invariants.TidyCollect.{IsChoice, kept_of}
use Rattle.grid.proofs.GridSweep.{contains_member}
use Rattle.events.proofs.accounts.TimesLemmas.{length-filter}
use Rattle.desk.proofs.HoldLemmas.{tidy_told, told_more}

-- a version that is kept is one of those in the slots
kept_member : (kept_now : Kept) (v : ℕ) → IsIn kept_now v → Contains (members kept_now.slots) v
kept_member kept_now v h = contains_member kept_now.slots h.slot v h.there

-- retired pieces that are kept, as retired blocks, are the retired blocks that are kept
stay_as_blocks : (p : RetiredBlock → Bool) (rs : List OldPiece)
    → map retired_of (filter (λ r. p (retired_of r)) rs) ≡ filter p (map retired_of rs)
stay_as_blocks p [] = refl
stay_as_blocks p (r ∷ rs) = grind (arith, stay_as_blocks p rs)

-- after a collect the summary of what is held is the summary of the log
summary_collected : (k : Base) (s : Story) (m : Blocks) (old new : Holding) (place f freed : ℕ)
    (kept_now : Kept) → IsTidy k s m → Holds k s m old → IsChoice s kept_now
    → Sweeps (members kept_now.slots) old.grid old.arena.free freed new.grid new.arena.free
    → new.ledger ≡ record old.ledger { places = old.ledger.places + 1; kept = kept_now }
    → IsSummary k (told s Collect (Collected place f freed kept_now))
    (moved s Collect (Collected place f freed kept_now) m) (summary_of new)
summary_collected k s m old new place f freed kept_now tidy holds choice sweeps entered =
    let held = holds.summary in
    let stay = stay_as_blocks (is_used (members kept_now.slots)) old.grid.retired in
    let swept = summary_swept k s m (summary_of old) new.ledger place f freed kept_now
    new.arena.free (retired_blocks new.grid) held
    (ledger_collect k s old.ledger new.ledger _ place f freed kept_now held.ledger_is refl
    entered) (ap (map retired_of) sweeps.retired_is ∙ stay) sweeps.free_is in
    let published = sweeps.bitmaps old.grid.newest
    (kept_member kept_now old.grid.newest (rw holds.newest_is choice.newest_in)) in
    search (rules, arith, swept, published)

-- after a collect what is held is what the log says
holds_collected : (k : Base) (s : Story) (m : Blocks) (old new : Holding) (place f freed : ℕ)
    (kept_now : Kept) → IsTidy k s m → Holds k s m old → IsChoice s kept_now
    → Sweeps (members kept_now.slots) old.grid old.arena.free freed new.grid new.arena.free
    → new.arena.home ≡ old.arena.home
    → new.ledger ≡ record old.ledger { places = old.ledger.places + 1; kept = kept_now }
    → Holds k (told s Collect (Collected place f freed kept_now))
    (moved s Collect (Collected place f freed kept_now) m) new
unfolding told moved newest bitmap_of directory_of IsKept
holds_collected k s m old new place f freed kept_now tidy holds choice sweeps home entered =
    let summary = summary_collected k s m old new place f freed kept_now tidy holds choice sweeps
    entered in
    let versions = λ (v : ℕ) (is_kept : IsIn kept_now v). sweeps.bitmaps v
    (kept_member kept_now v is_kept) ∙ holds.versions v (kept_of s kept_now choice v is_kept) in
    search (rules, arith, versions)

-- a collect frees as many blocks as fewer are in use after it
freed_told : (k : Base) (s : Story) (m : Blocks) (old new : Holding) (freed : ℕ) (kept_now : Kept)
    → IsTidy k s m → Holds k s m old → IsChoice s kept_now
    → Sweeps (members kept_now.slots) old.grid old.arena.free freed new.grid new.arena.free
    → freed + inuse (with_kept s kept_now) ≡ inuse s
unfolding kept
freed_told k s m old new freed kept_now tidy holds choice sweeps =
    grind (
      arith,
      freed_is k s m tidy kept_now choice,
      length-map,
      ap (map retired_of)
          sweeps.retired_is,
      length-filter (is_used (members kept_now.slots)) m.retired,
      stay_as_blocks (is_used (members kept_now.slots)) old.grid.retired,
    )

-- a collect does what its reply says
pub collect_done : (old new : Holding) (kept_now : Kept) (freed : ℕ) (reply : Reply)
    → refused_by_ledger old.ledger Collect ≡ None
    → IsPartOfKept kept_now.slots old.ledger.kept.slots → IsIn kept_now old.ledger.newest
    → Sweeps (members kept_now.slots) old.grid old.arena.free freed new.grid new.arena.free
    → new.arena.home ≡ old.arena.home
    → new.ledger ≡ record old.ledger { places = old.ledger.places + 1; kept = kept_now }
    → reply ≡ Collected (old.ledger.places + 1) (least_kept old.ledger.newest kept_now) freed
    kept_now → Does old Collect reply new
collect_done old new kept_now freed reply by part newest_in sweeps home entered said k log tells =
    let s = story k log in
    let m = blocks k log in
    let tidy = tidy_told k log old tells in
    let held = tells.holds.summary.ledger_is in
    let choice : IsChoice s kept_now = record {
      part = rw (← held.kept_is) part;
      newest_in = rw (← held.newest_is) newest_in;
    } in
    let answer : IsAnswer k.setting s Collect reply = record {
      accepted = refused_next k s old.ledger held tidy.draft Collect by;
      reply_is = (
        _,
        _,
        _,
        rw held.places_is at said,
        record {
          part = choice.part;
          newest_in = choice.newest_in;
          floor_is = ap (λ (n : ℕ). least_kept n kept_now) held.newest_is;
          freed_is = freed_told k s m old new freed kept_now tidy tells.holds choice sweeps;
        },
      );
    } in (
      answer,
      told_more k log old new Collect reply tells answer (rw said (holds_collected k s m old new _ _
          freed kept_now tidy tells.holds choice sweeps home entered)),
    )
