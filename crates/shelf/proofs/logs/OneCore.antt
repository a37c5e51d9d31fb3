-- The rule of a table gives a state of the core.
use Rattle.shelf.proofs.Names.{rules, ◌≡◌, ℕ, ◌<◌, ◌≤◌, ◌⊎◌, List, get_or, refl, ap, sym, ◌∙◌}
use Rattle.shelf.proofs.Names.{arith, inl, inr, fresh_reader, times, State, Base, pin_at, pin_word}
use Rattle.shelf.proofs.Names.{Reader, IsWhole, Request, KeeperView, Role, keeping, reading}
use Rattle.shelf.proofs.Names.{meeting, as_keeper, core_of, ticket, learning, AreSeats, Agrees}
use Rattle.shelf.proofs.Names.{Knows, HasReader, HasKeeper, slice_get, Some}
use Rattle.shelf.proofs.logs.LogParts.{prefix-entries}
use Rattle.shelf.proofs.steps.KeeperSteps.{some_reader}
use Rattle.events.proofs.invariants.SafeLemmas.{IsSafe-whole}
use Rattle.shelf.specs.Rule.{IsSomeSeat}
use Rattle.shelf.specs.Laws.{ShowsReader, ShowsKeeper, IsStateOf, IsAState}
use Rattle.shelf.proofs.seats.Owners.{readers_apart, keepers_one}
use Rattle.std.proofs.lemmas.Bool.{cases_lt}
use Rattle.events.proofs.steps.StepLemmas.{number_inside}

-- where no seat has a reader's number, since it isn't dealt yet or is given up, its word is 0
quiet_words : (z : Base) (words : List ℕ) (k : KeeperView) (readers : List Reader)
    (views : List Role) → IsWhole (core_of z words k readers) → AreSeats z k readers views
    → (q : ℕ) → q < z.setting.sessions → (k.dealt ≤ q) ⊎ (1 ≤ times q k.gone)
    → get_or words (pin_at q) 0 ≡ 0
unfolding pin_word
quiet_words z words k readers views whole seats q inside (inl above) =
    (whole.reader q fresh_reader (seats.fresh q above inside)).word
quiet_words z words k readers views whole seats q inside (inr gone) =
    let count = whole.readers in
    let there = some_reader readers q (omega arith) in
    (whole.reader q there.0 there.1).word ∙ ap pin_word (seats.left q there.0 gone there.1)

-- the core's reader of a seat is the seat's view
shown_by : (z : Base) (k : KeeperView) (readers : List Reader) (keeper : ℕ) (owner : ℕ → ℕ)
    (j r : ℕ) (y : Reader) (role : Role) → Knows z k readers keeper owner j role → HasReader r role
    → slice_get readers r ≡ Some y → ShowsReader r y role
shown_by z k readers keeper owner j r y role knows has there = search rules

-- the keeper of the core is its seat's view
kept_by : (z : Base) (k : KeeperView) (readers : List Reader) (keeper : ℕ) (owner : ℕ → ℕ) (j : ℕ)
    (role : Role) → Knows z k readers keeper owner j role → HasKeeper role
    → ShowsKeeper (as_keeper k) role
kept_by z k readers keeper owner j role knows has = search rules

-- each reader of the core is the view of a seat, or its word is 0
each_reader_is : (z : Base) (words : List ℕ) (k : KeeperView) (readers : List Reader)
    (views : List Role) → IsWhole (core_of z words k readers) → AreSeats z k readers views
    → (r : ℕ) (y : Reader) → slice_get readers r ≡ Some y → IsSomeSeat (ShowsReader r y) views
    ⊎ (get_or words (pin_at r) 0 ≡ 0)
each_reader_is z words k readers views whole seats r y there =
    let inside = number_inside (core_of z words k readers) r y whole there in
    let quiet = quiet_words z words k readers views whole seats r inside in
    elim (cases_lt r k.dealt) [
      | inl below ↦
          elim (cases_lt 0 (times r k.gone)) [
            | inl gone ↦ inr (quiet (inr gone))
            | inr here ↦
                let it = seats.seated r below (omega arith) in
                inl record {
                  seat = seats.owner r;
                  seated = record {
                    role = it.role;
                    at = it.at;
                    is = search (rules, shown_by, seats.each_seat);
                  };
                }
          ]
      | inr above ↦ inr (quiet (inl above))
    ]

-- words and seats that agree with a keeper and with readers are a state of the core
pub core_at : (z : Base) (s : State Request Role) (k : KeeperView) (readers : List Reader)
    → IsWhole (core_of z s.words k readers) → AreSeats z k readers s.views
    → IsStateOf z s (core_of z s.words k readers)
core_at z s k readers whole seats = record {
  whole = whole;
  safe = IsSafe-whole (core_of z s.words k readers) whole;
  base_is = refl;
  words_are = refl;
  kept = record {
    seat = seats.keeper;
    seated = record {
      role = seats.kept.role;
      at = seats.kept.at;
      is = search (rules, kept_by, seats.each_seat);
    };
  };
  keeper = λ j u at. ap as_keeper (sym (seats.each_seat j (keeping u) at).1);
  reader = λ j x at. (seats.each_seat j (reading x) at).1.there;
  together = λ j u x at. let told = seats.each_seat j (meeting u x) at in
      (ap as_keeper (sym told.1), told.3.there);
  taught = λ j x seen at. let told = seats.each_seat j (learning x seen) at in
      (told.1.there, prefix-entries seen k.log told.2);
  tickets = λ j seen at. prefix-entries seen k.log (seats.each_seat j (ticket seen) at);
  each_reader = each_reader_is z s.words k readers s.views whole seats;
  apart = readers_apart z k readers s.views seats;
  one_keeper = keepers_one z k readers s.views seats;
}

-- where the rule holds of a table, there is a state of the core that is the table's
pub one_core : (z : Base) (s : State Request Role) → Agrees z s → IsAState z s
one_core z s r =
    record { w = core_of z s.words r.k r.readers; is = core_at z s r.k r.readers r.whole r.seats }
