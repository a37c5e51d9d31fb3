-- What seats give one another, and the last loads of a store, are no events.
use Rattle.shelf.proofs.Names.{rules, ◌≡◌, ℕ, ◌+◌, List, [], refl, ap, State, set_again, Base}
use Rattle.shelf.proofs.Names.{now_at, Request, KeeperView, Role, keeping, meeting, resting}
use Rattle.shelf.proofs.Names.{as_keeper, AreSeats, Agrees, without, with_views, IsNoEvent}
use Rattle.shelf.specs.Laws.{HandingsAreNone}
use Rattle.shelf.proofs.seats.Bridge.{set_get}
use Rattle.shelf.proofs.steps.TicketSteps.{cut_seats, handed_seats}
use Rattle.shelf.proofs.steps.MeetingSteps.{together_seats, apart_seats, without_seats}
use Rattle.shelf.proofs.steps.OpeningSteps.{dealt_seats}

-- other views of the seats are no event, also where the keeper's view is another that stands for
-- the same keeper of the core
handed : (z : Base) (s : State Request Role) (r : Agrees z s) (views : List Role) (u : KeeperView)
    → as_keeper u ≡ as_keeper r.k → AreSeats z u r.readers views
    → IsNoEvent z s r (with_views s views)
handed z s r views u same seats =
    record {
      after = record { k = u; readers = r.readers; whole = rw same r.whole; seats = seats };
      same = λ i. record {
        base = z;
        words = s.words;
        keeper = same i;
        readers = r.readers;
      };
    }

-- what seats give one another, and each last load of a store, is no event
pub handings_are_none : (z : Base) (s : State Request Role) (id other : ℕ) (r : Agrees z s)
    → HandingsAreNone z s r id other
handings_are_none z s id other r = record {
  together = λ k x at else there. handed z s r _ r.k refl
      (together_seats z s r id other k x at else there);
  apart = λ k x at. handed z s r _ r.k refl (apart_seats z s r id k x at);
  cut = λ k at. handed z s r _ r.k refl (cut_seats z s r id k at);
  hand = λ x seen at else there. handed z s r _ r.k refl
      (handed_seats z s r id other x seen at else there);
  deal = λ n below at.
      let mine = r.seats.each_seat id (keeping (resting n [])) at in
      handed z s r _ (resting (n + 1) []) (ap as_keeper mine.1) (dealt_seats z s r id n below at);
  give_up = λ k x at quiet. let mine = r.seats.each_seat id (meeting k x) at in
      rw mine.1 (rw (set_get s.words now_at) (handed z s r _ (without r.k x) refl
      (without_seats z s r id x (search rules) quiet)));
  end = λ k at. rw (set_get s.words now_at)
      (handed z s r _ r.k refl (rw (set_again s.views id (keeping k) at) r.seats));
}
