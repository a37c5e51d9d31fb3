-- Each step of a seat is the event of its kind.
use Rattle.shelf.proofs.Names.{rules, version_of_now, directory_of, set_again, nat_tests, ◌≡◌, ℕ}
use Rattle.shelf.proofs.Names.{◌<◌, List, set, get_or, refl, sym, Option, Some, None, some}
use Rattle.shelf.proofs.Names.{get_elem?, State, Collect, Publish, Event, StepReply, Base, now_at}
use Rattle.shelf.proofs.Names.{pin_at, now_of, tiles, tile_at, place_told, version_told, Reader}
use Rattle.shelf.proofs.Names.{story, blocks, steps_before, story-push, Request, KeeperView}
use Rattle.shelf.proofs.Names.{ReaderView, Role, keeping, reading, meeting, learning, entries}
use Rattle.shelf.proofs.Names.{as_reader, core_of, Fits, AreSeats, HasReader, HasKeeper, Agrees}
use Rattle.shelf.proofs.Names.{IsEvent, scanned, signed_of, committed, MayCommit, loaded, met}
use Rattle.shelf.proofs.Names.{with_command, wrote}
use Rattle.std.proofs.Common.{subst}
use Rattle.shelf.specs.Laws.{after_step, StepsAreEvents}
use Rattle.shelf.proofs.steps.KeeperSteps.{task_seats, commit_seats}
use Rattle.shelf.proofs.steps.ReaderSteps.{reader_seats, seats_loaded}
use Rattle.shelf.proofs.steps.LookSteps.{block_seen, same_slot}
use Rattle.events.proofs.steps.Events.{look_map_does, look_tile_does, is_mapped_found}
use Rattle.events.specs.declared.event.Event.TheVariants.{Announce, Leave, Confirm, Keep, Load}
use Rattle.events.specs.declared.event.Event.TheVariants.{LookMap, LookTile, Order}
use Rattle.events.specs.Steps.{does}
use Rattle.events.proofs.steps.DoesLemmas.{does-keeps}
use Rattle.shelf.proofs.logs.LogParts.{entries-push}
use Rattle.shelf.proofs.seats.Bridge.{set_get}
use Rattle.events.proofs.steps.Events.{does_announce, does_confirm, does_leave, does_step}
use Rattle.events.proofs.steps.Events.{does_commit, does_load, does_order}
use Rattle.shelf.proofs.logs.OneCore.{core_at}
use Rattle.shelf.proofs.steps.MeetingSteps.{met_seats}
use Rattle.events.specs.declared.event.StepReply.TheVariants as says

-- where the core does an event, and the seats agree after it, the step of the table is that event
event_at : (z : Base) (s : State Request Role) (r : Agrees z s) (e : Event) (answer : StepReply)
    (stored : Option ℕ) (words : List ℕ) (views : List Role) (k : KeeperView)
    (readers : List Reader)
    → does (core_of z s.words r.k r.readers) e
    ≡ Some record { state = core_of z words k readers; answer = answer; stored = stored }
    → AreSeats z k readers views
    → IsEvent z s r record { words = words; homes = s.homes; views = views } e answer
event_at z s r e answer stored words views k readers done seats =
    let keeps = does-keeps (core_of z s.words r.k r.readers) e _ r.whole done in
    record {
      after = record { k = k; readers = readers; whole = keeps.whole; seats = seats };
      stored = stored;
      was = core_at z s r.k r.readers r.whole r.seats;
      is = core_at z record { words = words; homes = s.homes; views = views } k readers keeps.whole
          seats;
      done = done;
      spares = keeps.spares;
    }

-- where the core does an event that stores nothing, the step that loads a word is that event
event_here : (z : Base) (s : State Request Role) (r : Agrees z s) (e : Event) (answer : StepReply)
    (i id : ℕ) (v : Role) (k : KeeperView) (readers : List Reader)
    → does (core_of z s.words r.k r.readers) e
    ≡ Some record { state = core_of z s.words k readers; answer = answer; stored = None }
    → AreSeats z k readers (set s.views id v)
    → IsEvent z s r (after_step s i (get_or s.words i 0) id v) e answer
event_here z s r e answer i id v k readers done seats =
    rw (set_get s.words i) (event_at z s r e answer None s.words _ k readers done seats)

-- the keeper's store of NOW, which commits the current command, is the core's event Keep
commit_event : (z : Base) (s : State Request Role) (r : Agrees z s) (id : ℕ) (may : MayCommit z r.k)
    → get_elem? s.views id ≡ some (keeping r.k)
    → IsEvent z s r (after_step s now_at (now_of (story z (entries (committed z r.k may.task).log)))
    id (keeping (committed z r.k may.task))) Keep
    (says.Committed (signed_of z r.k may.task).entry.reply)
commit_event z s r id may at =
    let t = may.task in
    let e = signed_of z r.k t in
    event_at z s r Keep _ (Some now_at) _ _ (committed z r.k t) r.readers
    (rw (entries-push r.k.log e, story-push z (entries r.k.log) e.entry)
    (does_commit (core_of z s.words r.k r.readers) t.hand (search rules) may.all_done))
    (commit_seats z s r id r.k t at (r.seats.each_seat id (keeping r.k) at).0
    may.caller may.met)

-- the core's event Load makes a reader one that has seen the log, and answers what NOW tells
load_does : (z : Base) (s : State Request Role) (r : Agrees z s) (x : ReaderView)
    → Fits z r.k r.readers x
    → let n = get_or s.words now_at 0 in does (core_of z s.words r.k r.readers) (Load x.number)
    ≡ Some record {
      state = core_of z s.words r.k
          (set r.readers x.number (as_reader (loaded z r.k.log x)));
      answer = says.Now (place_told n) (version_told n);
      stored = None;
    }
load_does z s r x f =
    let version = version_of_now z (entries r.k.log) r.whole.ready r.whole.keeper.legal in
    rw (← version, ← r.whole.keeper.now)
    (does_load (core_of z s.words r.k r.readers) x.number (as_reader x) f.there)

-- a reader's load of NOW is the core's event Load, whatever else stands in its seat
load_event : (z : Base) (s : State Request Role) (r : Agrees z s) (id : ℕ) (x : ReaderView)
    (old : Role) → get_elem? s.views id ≡ some old → ((q : ℕ) → HasReader q old → x.number ≡ q)
    → (HasKeeper old → ⊥)
    → r.seats.owner x.number ≡ id → Fits z r.k r.readers x
    → IsEvent z s r (after_step s now_at (get_or s.words now_at 0) id
    (reading (loaded z r.k.log x))) (Load x.number)
    (says.Now (place_told (get_or s.words now_at 0)) (version_told (get_or s.words now_at 0)))
load_event z s r id x old at same other own f =
    event_here z s r (Load x.number) _ now_at id _ r.k _ (load_does z s r x f)
    (seats_loaded z s r id x old at same other own f)

-- a reader's load is an event that changes nothing, where the core does that event so
look_event : (z : Base) (s : State Request Role) (r : Agrees z s) (id i : ℕ) (x : ReaderView)
    (e : Event) (answer : StepReply) → get_elem? s.views id ≡ some (reading x)
    → does (core_of z s.words r.k r.readers) e
    ≡ Some record { state = core_of z s.words r.k r.readers; answer = answer; stored = None }
    → IsEvent z s r (after_step s i (get_or s.words i 0) id (reading x)) e answer
look_event z s r id i x e answer at done =
    event_here z s r e answer i id (reading x) r.k r.readers done
    (rw (set_again s.views id (reading x) at) r.seats)

-- a reader's load of a row of a block, of the version that it holds, is the core's event LookTile
tile_event : (z : Base) (s : State Request Role) (r : Agrees z s) (id : ℕ) (x : ReaderView)
    (v p b i : ℕ) → get_elem? s.views id ≡ some (reading x) → x.holds ≡ Some v → p < tiles z
    → b ≡ get_or (directory_of (blocks z (entries x.seen)) v) p 0 → i < 64
    → IsEvent z s r (after_step s (tile_at z b i) (get_or s.words (tile_at z b i) 0) id (reading x))
    (LookTile x.number b i) (says.Word (get_or s.words (tile_at z b i) 0))
tile_event z s r id x v p b i at held inside is row =
    let f = (r.seats.each_seat id (reading x) at).1 in
    let w = core_of z s.words r.k r.readers in
    let found = is_mapped_found w r.whole v p b
    ((r.whole.reader x.number (as_reader x) f.there).holds v held).kept inside
    (rw (same_slot z s r x f v held, is) (block_seen z s r x f v held p inside)) in
    look_event z s r id (tile_at z b i) x (LookTile x.number b i) _ at
    (look_tile_does w x.number b i v (get_or s.words (tile_at z b i) 0) (Some v)
    (search rules) refl (rw (← found) (search (rules, nat_tests))) refl)

-- each step of a seat is the core's event of its kind
pub steps_are_events : (z : Base) (s : State Request Role) (id : ℕ) (r : Agrees z s)
    → StepsAreEvents z s r id
unfolding steps_before
steps_are_events z s id r = record {
  announce = λ x at quiet. event_at z s r (Announce x.number) _ (Some (pin_at x.number)) _ _ r.k _
      (does_announce (core_of z s.words r.k r.readers) x.number (as_reader x)
      (r.seats.each_seat id (reading x) at).1.there quiet)
      (reader_seats z s r id x _ x.holds at (λ v e. e));
  confirm = λ x v at held. event_at z s r (Confirm x.number) _ (Some (pin_at x.number)) _ _ r.k _
      (does_confirm (core_of z s.words r.k r.readers) x.number (as_reader x) v
      (r.seats.each_seat id (reading x) at).1.there held)
      (reader_seats z s r id x _ x.holds at (λ w e. e));
  leave = λ x at there. event_at z s r (Leave x.number) _ (Some (pin_at x.number)) _ _ r.k _
      (does_leave (core_of z s.words r.k r.readers) x.number (as_reader x)
      (r.seats.each_seat id (reading x) at).1.there there)
      (reader_seats z s r id x None None at (λ v e. absurd (cc)));
  load = λ x at. let mine = r.seats.each_seat id (reading x) at in
      load_event z s r id x (reading x) at (λ q e. e) (λ e. e) mine.0 mine.1;
  learn = λ x seen at. let mine = r.seats.each_seat id (learning x seen) at in
      load_event z s r id x (learning x seen) at (λ q e. e) (λ e. e) mine.0 mine.1;
  meet = λ k x at unmet. let mine = r.seats.each_seat id (meeting k x) at in
      rw mine.1 (event_here z s r (Load x.number) _ now_at id _ (met r.k) _
      (load_does z s r x mine.3) (met_seats z s r id x (search rules) (search rules)));
  look_map = λ x v p at held inside. let f = (r.seats.each_seat id (reading x) at).1 in
      look_event z s r id _ x (LookMap x.number p) _ at
      (look_map_does (core_of z s.words r.k r.readers) x.number p v _ (Some v)
      (search rules) refl inside (rw (same_slot z s r x f v held) refl));
  look_tile = tile_event z s r id;
  order = λ k by c at none accepted. let mine = r.seats.each_seat id (keeping k) at in
      rw mine.1 (event_here z s r (Order c) _ now_at id _ (with_command r.k by c) r.readers
      (does_order (core_of z s.words r.k r.readers) c (search rules) (rw (← mine.1) accepted))
      (task_seats z s r id k _ at mine.0));
  write = λ k t at task publish more. let mine = r.seats.each_seat id (keeping k) at in
      rw mine.1 (event_at z s r Keep says.Written (Some _) _ _ (wrote r.k t) r.readers
      (does_step (core_of z s.words r.k r.readers) t.hand Publish (search rules) publish
      (rw (← mine.1) more)) (task_seats z s r id k _ at mine.0));
  scan = λ k t at task collect more. let mine = r.seats.each_seat id (keeping k) at in
      rw mine.1 (event_here z s r Keep _ _ id _
      (scanned r.k t (get_or s.words (pin_at t.hand.done) 0)) r.readers
      (does_step (core_of z s.words r.k r.readers) t.hand Collect (search rules) collect more)
      (task_seats z s r id k _ at mine.0));
  commit = λ k may at. let mine = r.seats.each_seat id (keeping k) at in
      subst (λ (l : KeeperView). (m : MayCommit z l) → get_elem? s.views id ≡ some (keeping l)
      → IsEvent z s r (after_step s now_at (now_of (story z (entries (committed z l m.task).log)))
      id (keeping (committed z l m.task))) Keep
      (says.Committed (signed_of z l m.task).entry.reply)) (sym mine.1) (commit_event z s r id) may
      at;
}
