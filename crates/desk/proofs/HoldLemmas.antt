-- What is held changes as the log has one more entry.
use Rattle.desk.proofs.Names.{◌≡◌, ℕ, ◌<◌, ◌&&◌, Bool, true, false, if◌then◌else◌, List, [], ◌∷◌}
use Rattle.desk.proofs.Names.{◌++◌, length, get_or, ap, subst, sym, ◌∙◌, arith, Some, None, nat_le}
use Rattle.desk.proofs.Names.{nat_tests, VersionsFull, LogFull, PlacesUsed, Publish, Command, Entry}
use Rattle.desk.proofs.Names.{Reply, Kept, Ledger, members, IsIn, IsBalanced, takes_room}
use Rattle.desk.proofs.Names.{has_no_room, has_no_place, has_no_slot, refused_by_ledger, Story}
use Rattle.desk.proofs.Names.{newest, bitmap_of, IsKept, IsAnswer, told, Blocks, directory_of}
use Rattle.desk.proofs.Names.{moved, Base, story, blocks, IsTidy, IsSummary, story-push}
use Rattle.desk.proofs.Names.{blocks-push, IsTidy-legal, IsLegal-push, Home, Tiled, draft}
use Rattle.desk.proofs.Names.{bitmap_at, own_blocks, newest_blocks, retired_blocks, Holding}
use Rattle.desk.proofs.Names.{summary_of, Holds, IsToldByLog, rules}
use Rattle.events.proofs.logs.LedgerLemmas.{place_of_ledger}

-- the map of a log that is told, and its blocks, are tidy
pub tidy_told : (k : Base) (log : List Entry) (h : Holding) → IsToldByLog k log h
    → IsTidy k (story k log) (blocks k log)
tidy_told k log h tells = IsTidy-legal k log tells.ready tells.legal

-- what is held after one more entry is told by the log with that entry
pub told_more : (k : Base) (log : List Entry) (old new : Holding) (c : Command) (reply : Reply)
    → IsToldByLog k log old → IsAnswer k.setting (story k log) c reply
    → Holds k (told (story k log) c reply) (moved (story k log) c reply (blocks k log)) new
    → IsToldByLog k (log ++ record { command = c; reply = reply } ∷ []) new
unfolding story
told_more k log old new c reply tells answer holds = record {
  ready = tells.ready;
  legal = IsLegal-push k.setting _ log _ tells.legal answer;
  holds = rw (story-push k log _, blocks-push k log _) holds;
}

-- a grid in which only the draft's own tiles differ has the same versions
same_versions : (g new : Tiled) → new ≡ record g { own = new.own } → (v : ℕ)
    → bitmap_at new v ≡ bitmap_at g v
unfolding bitmap_at
same_versions g new others v = rw others

-- a grid in which only the draft's own tiles differ has the same newest bitmap
same_published : (g new : Tiled) → new ≡ record g { own = new.own }
    → bitmap_at new new.newest ≡ bitmap_at g g.newest
unfolding bitmap_at
same_published g new others = rw others

-- what is held is what the log says where only the draft has changed, in both
pub holds_draft : (k : Base) (s t : Story) (m n : Blocks) (old new : Holding) → Holds k s m old
    → new.grid ≡ record old.grid { own = new.grid.own } → new.arena.home ≡ old.arena.home
    → IsSummary k t n record (summary_of old) {
      ledger = new.ledger;
      draft = draft new.grid;
      own = own_blocks new.grid;
      free = new.arena.free;
    }
    → newest t ≡ newest s → t.kept ≡ s.kept → ((v : ℕ) → bitmap_of t v ≡ bitmap_of s v)
    → directory_of n (newest t) ≡ directory_of m (newest s) → Holds k t n new
unfolding IsKept
holds_draft k s t m n old new holds others home kept newest_same kept_same bitmaps directory =
    search (rules, arith, same_published, same_versions, bitmaps, holds.versions)

-- a publish that a ledger doesn't refuse finds a slot
pub slot_of_ledger : (l : Ledger) → IsBalanced l → refused_by_ledger l Publish ≡ None
    → length (members l.kept.slots) < 64
unfolding refused_by_ledger
slot_of_ledger l balanced by = grind (arith, nat_tests)

-- a command that is a publish, and that a ledger doesn't refuse, finds a slot
pub publish_room : (l : Ledger) (c : Command) → IsBalanced l → c ≡ Publish
    → refused_by_ledger l c ≡ None → length (members l.kept.slots) < 64
publish_room l c balanced publish by = slot_of_ledger l balanced (rw (← publish) by)

-- a place and a slot are left where the ledger doesn't refuse a command
pub ruleset places_left = (place_of_ledger, slot_of_ledger)
