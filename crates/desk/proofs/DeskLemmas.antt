-- A desk's command: why it is refused, what the seat has then seen, and what the desk is then.
use Rattle.desk.proofs.Names.{◌≡◌, ℕ, ◌+◌, ◌==◌, cond, false, if◌then◌else◌, List, [], ◌∷◌, ◌++◌}
use Rattle.desk.proofs.Names.{length, refl, ap, sym, ◌∙◌, arith, add-zero, Option, Some, Ok, Err}
use Rattle.desk.proofs.Names.{PlacesUsed, Seen, Collect, nat_tests, inl, inr, Refusal, Command}
use Rattle.desk.proofs.Names.{Reply, kept_after, Story, newest, takes_room, told, refused}
use Rattle.desk.proofs.Names.{kept_told, Base, story, StoreEntry, StoreId, readers_of, entries-push}
use Rattle.desk.proofs.Names.{length-entries, prefix-push, slots_apart, IsLegal, drop-append-le}
use Rattle.desk.proofs.Names.{drop_all, length-append, KeeperView, ReaderView, entries, resting}
use Rattle.desk.proofs.Names.{unmet_by, met, met_by, Holding, IsToldByLog, Refuses}
use Rattle.desk.proofs.Names.{IsCarried, KeepsScanned, signed, DeskView, story_told, base_place}
use Rattle.desk.proofs.Names.{kept_part, entries_kept_after, IsDesk, IsSteady, IsByScan, IsAccepted}
use Rattle.desk.proofs.Names.{IsWhy, IsCommandRefused, IsApplied}
use mathlib.Core.List.{IsPrefix}
use Rattle.events.proofs.logs.LogLemmas.{places_are, places-legal}
use Rattle.events.proofs.logs.KeptAfter.{few_after}
use Rattle.shelf.proofs.seats.ReaderSeats.{hold_stays}
use Rattle.shelf.proofs.logs.NowLemmas.{story-push}
use Rattle.desk.proofs.ScanSteps.{kept_replied}

-- a desk refuses a command if the log does, or when out of memory
why_is : (z : StoreId) (d : DeskView) (h : Holding) (c : Command) (refusal : Refusal)
    → IsToldByLog z.base (entries d.log) h → Refuses h c refusal → IsWhy z d c refusal
why_is z d h c refusal told (inl judged) = inl (sym (judged z.base (entries d.log) told))
why_is z d h c refusal told (inr judged) =
    inr (sym (judged.0 z.base (entries d.log) told), judged.1, judged.2)

-- a reader that holds steady has, once it has met the keeper, seen its log, and counts this many
-- entries more
met_steady : (z : Base) (k : KeeperView) (x : ReaderView) (more : ℕ) → IsSteady x
    → unmet_by x.number k.unmet ≡ more
    → met_by z k x ≡ record x { seen = k.log; made = x.made + more }
met_steady z k x more steady count =
    λ i. record x {
      seen = k.log;
      made = x.made + count i;
      holds = hold_stays x (newest (story z (entries k.log))) steady i;
    }

-- once a reader has met the keeper of a desk, the keeper rests at the desk's log
pub keeper_met : (z : StoreId) (d : DeskView) (k after : KeeperView) (h : Holding)
    (kept : List StoreEntry) → IsDesk z d k h kept → after ≡ met k
    → after ≡ resting (readers_of z) d.log
keeper_met z d k after h kept desk is = cc

-- a reader that has met the keeper of a desk has seen the desk's log
pub reader_met : (z : StoreId) (d : DeskView) (k : KeeperView) (h : Holding)
    (kept : List StoreEntry) (x y : ReaderView) → IsDesk z d k h kept → IsSteady x
    → y ≡ met_by z.base k x
    → y ≡ record x { seen = d.log }
reader_met z d k h kept x y desk steady is =
    rw (
      desk.keeper_is,
      met_steady z.base (resting (readers_of z) d.log) x 0 steady refl,
      add-zero x.made,
    ) at is

-- a command is refused where what is held refuses it, the desk is as before, and the reader has met
-- the keeper
pub refused_is : (z : StoreId) (d new : DeskView) (k : KeeperView) (h : Holding)
    (kept : List StoreEntry) (x y : ReaderView) (c : Command) (refusal : Refusal)
    → IsDesk z d k h kept
    → IsSteady x → Refuses h c refusal → new ≡ d → y ≡ met_by z.base k x
    → IsCommandRefused z d x c refusal new y
refused_is z d new k h kept x y c refusal desk steady judged same met_is =
    record {
      why = why_is z d h c refusal desk.told judged;
      same = same;
      seat_is = reader_met z d k h kept x y desk steady met_is;
    }

-- a command that is accepted was done so: the keeper rested at the desk's log, and carried it out
pub record IsDone (z : StoreId) (d : DeskView) (k : KeeperView) (h : Holding) (by : ℕ) (c : Command)
    (reply : Reply) (after : KeeperView) (new : Holding) : Type 0 where
  pub told : IsToldByLog z.base (entries d.log) h
  pub at_rest : k ≡ resting (readers_of z) d.log
  pub carried : IsCarried k h by c reply after new

-- once a command is carried out, the keeper rests at the desk's log with one more entry, which its
-- reader hasn't met
keeper_after : (z : StoreId) (d : DeskView) (k : KeeperView) (h : Holding) (by : ℕ) (c : Command)
    (reply : Reply) (after : KeeperView) (new : Holding) → IsDone z d k h by c reply after new
    → after ≡ record (resting (readers_of z) (d.log ++ signed by c reply ∷ [])) { unmet = Some by }
keeper_after z d k h by c reply after new done = rw done.at_rest at done.carried.keeper_is

-- ---- the entries that are kept

-- an entry that takes no room has its own place as the base place, and any other leaves the base
-- place
base_told : (s : Story) (c : Command) (reply : Reply)
    → (told s c reply).base ≡ (if takes_room c then s.base else s.places + 1)
unfolding told
base_told s c reply = grind arith

-- a log's base place is that of its last entry where this takes no room, and else stays
base_push : (z : StoreId) (log : List StoreEntry) (e : StoreEntry)
    → base_place z (log ++ e ∷ [])
    ≡ (if takes_room e.entry.command then base_place z log else length log + 1)
base_push z log e =
    let places = places_are z.base (entries log) ∙ length-entries log in
    ap (λ (s : Story). s.base) (story-push z.base log e)
    ∙ rw (← places) (base_told (story_told z log) e.entry.command e.entry.reply)

-- a log with one more entry keeps that entry too, or none where it is a checkpoint
kept_push : (z : StoreId) (log : List StoreEntry) (e : StoreEntry)
    → IsLegal z.base.setting z.base.opening (entries log)
    → kept_part z (log ++ e ∷ []) ≡ entries_kept_after (kept_part z log) e
kept_push z log e legal =
    let counts = places-legal z.base (entries log) legal in
    let places = places_are z.base (entries log) in
    grind (
      arith,
      base_push z log e,
      length-entries log,
      drop-append-le (base_place z log) log
          (e ∷ []),
      drop_all (length log + 1) (log ++ e ∷ []),
      length-append log (e ∷ []),
    )

-- once a command is accepted, and its reader has met the keeper, the log has one more entry
pub log_after : (z : StoreId) (d : DeskView) (k : KeeperView) (h : Holding) (by : ℕ) (c : Command)
    (reply : Reply) (after last : KeeperView) (new : Holding) → IsDone z d k h by c reply after new
    → last ≡ met after
    → last.log ≡ d.log ++ signed by c reply ∷ []
log_after z d k h by c reply after last new done last_is =
    rw (last_is, keeper_after z d k h by c reply after new done) refl

-- once a command is accepted, and its reader has met the keeper, the desk is one with one more
-- entry
pub desk_after : (z : StoreId) (d : DeskView) (k : KeeperView) (h : Holding) (by : ℕ) (c : Command)
    (reply : Reply) (after last : KeeperView) (new : Holding) (before kept : List StoreEntry)
    (as' : List (Option Seen))
    → IsDone z d k h by c reply after new → before ≡ kept_part z d.log
    → kept ≡ entries_kept_after before (signed by c reply) → last ≡ met after
    → length as' ≡ readers_of z
    → IsDesk z record { log = last.log; scanned = as' } last new kept
desk_after z d k h by c reply after last new before kept as' done before_is kept_is last_is
    place_each =
    let e = signed by c reply in
    rw (last_is, keeper_after z d k h by c reply after new done) record {
      keeper_is = refl;
      told = rw (entries-push d.log e) (done.carried.does z.base (entries d.log) done.told).1;
      kept_is = rw (kept_push z d.log e done.told.legal, ← before_is) kept_is;
      place_each = place_each;
    }

-- a collect that is carried out keeps what its scan saw asked for
by_scan : (z : StoreId) (d : DeskView) (k : KeeperView) (h : Holding) (by : ℕ) (c : Command)
    (reply : Reply) (after : KeeperView) (new : Holding) (seen : List (Option Seen))
    → IsDone z d k h by c reply after new → KeepsScanned h c new seen → length seen ≡ readers_of z
    → c ≡ Collect → IsByScan z d reply seen
by_scan z d k h by c reply after new seen done keeps each is =
    let s = story_told z d.log in
    let ledger = done.told.holds.summary.ledger_is in
    let kept_is : kept_told s reply ≡ kept_after s.kept (newest s) seen =
    rw (ledger.kept_is, ledger.newest_is) at (kept_replied z.base (entries d.log) h new reply _
    done.told (rw is at done.carried.does) (keeps is)) in
    record {
      each = each;
      kept_is = kept_is;
      few = λ exact. rw kept_is (few_after s.kept (newest s) seen
          (slots_apart z.base (entries d.log) done.told.ready done.told.legal) exact);
    }

-- a command that is carried out, and whose reader then meets the keeper, is accepted
pub accepted_is : (z : StoreId) (d now : DeskView) (k : KeeperView) (h : Holding) (by : ℕ)
    (c : Command) (reply : Reply) (after : KeeperView) (new : Holding) (x seen y : ReaderView)
    → IsDone z d k h by c reply after new → IsSteady x → by ≡ x.number
    → now.log ≡ d.log ++ signed by c reply ∷ []
    → KeepsScanned h c new now.scanned → length now.scanned ≡ readers_of z
    → seen ≡ record x { seen = d.log } → y ≡ met_by z.base after seen
    → IsAccepted z d x c reply now y
accepted_is z d now k h by c reply after new x seen y done steady by_is now_is keeps each seen_is
    y_is =
    let e = signed x.number c reply in
    let last : KeeperView = record (resting (readers_of z) (d.log ++ e ∷ [])) {
      unmet = Some x.number;
    } in
    let whole : now.log ≡ d.log ++ e ∷ [] = rw by_is at now_is in
    record {
      answer = (done.carried.does z.base (entries d.log) done.told).0;
      log = whole;
      kept = rw whole (kept_push z d.log e done.told.legal);
      base = rw (whole, base_push z d.log e, length-append d.log (e ∷ [])) refl;
      seat_is = rw (
        keeper_after z d k h by c reply after new done,
        seen_is,
        by_is,
        met_steady z.base last (record x { seen = d.log }) 1 steady (same_number x.number),
        ← whole,
      ) at y_is;
      collects = by_scan z d k h by c reply after new now.scanned done keeps each;
    }
  where
    same_number : (a : ℕ) → ◌≡◌ {A = ℕ} (cond (a == a) 1 0) 1
    same_number a = grind (arith, nat_tests)

-- a command that takes no capacity is refused only if no place is left
only_places : (z : StoreId) (d new : DeskView) (x y : ReaderView) (c : Command) (refusal : Refusal)
    → takes_room c ≡ false → IsCommandRefused z d x c refusal new y → refusal ≡ PlacesUsed
unfolding refused
only_places z d new x y c refusal none back = let why = back.why in grind arith

-- a log is legal after a command that is accepted
pub legal_after : (z : StoreId) (d now : DeskView) (k : KeeperView) (h : Holding) (by : ℕ)
    (c : Command) (reply : Reply) (after : KeeperView) (new : Holding)
    → IsDone z d k h by c reply after new → now.log ≡ d.log ++ signed by c reply ∷ []
    → IsLegal z.base.setting z.base.opening (entries now.log)
legal_after z d now k h by c reply after new done is =
    rw (is, entries-push d.log (signed by c reply))
    (done.carried.does z.base (entries d.log) done.told).1.legal

-- a command that is accepted is answered, and its seat has seen the whole log
pub applied_accepted : (z : StoreId) (d now : DeskView) (x y : ReaderView) (c : Command)
    (reply : Reply) → IsAccepted z d x c reply now y → IsPrefix x.seen d.log
    → IsLegal z.base.setting z.base.opening (entries now.log)
    → IsApplied z d x c (Ok reply) now y
applied_accepted z d now x y c reply accepted began legal =
    let grows = prefix-push x.seen d.log (signed x.number c reply) began in
    record {
      accepted = accepted;
      refused = tt;
      places = λ none. tt;
      stays = rw accepted.seat_is refl;
      seen = rw accepted.seat_is refl;
      began = began;
      grows = rw (accepted.seat_is, accepted.log) grows;
      legal = legal;
    }

-- a command that is refused is answered, and its seat has seen the whole log
pub applied_refused : (z : StoreId) (d now : DeskView) (x y : ReaderView) (c : Command)
    (refusal : Refusal) → IsCommandRefused z d x c refusal now y → IsPrefix x.seen d.log
    → IsLegal z.base.setting z.base.opening (entries d.log)
    → IsApplied z d x c (Err refusal) now y
applied_refused z d now x y c refusal refused began legal = record {
  accepted = tt;
  refused = refused;
  places = λ none. only_places z d now x y c refusal none refused;
  stays = rw refused.seat_is refl;
  seen = rw (refused.seat_is, refused.same) refl;
  began = began;
  grows = rw refused.seat_is began;
  legal = rw refused.same legal;
}
