-- The rule of a table says that its words and seats have one log.
use Rattle.shelf.proofs.Names.{rules, ℕ, List, arith, ne_eqb, State, Base, Request, Reader}
use Rattle.shelf.proofs.Names.{learning, KeeperView, ReaderView, Role, ticket, keeping, reading}
use Rattle.shelf.proofs.Names.{meeting, Fits, Knows, HasKeeper, Agrees}
use Rattle.shelf.specs.OneLog.{IsBehind, KnowsLog, HasOneLog}
use Rattle.shelf.proofs.seats.Owners.{readers_apart, keepers_one}
use Rattle.shelf.proofs.logs.LogParts.{prefix-entries, made_by-prefix}
use Rattle.shelf.proofs.logs.NowLemmas.{now_of_log, room}

-- a reader that fits the keeper has seen a prefix of its log, and counts its own entries except an
-- unmet one
fits-behind : (z : Base) (k : KeeperView) (readers : List Reader) (x : ReaderView)
    → Fits z k readers x → IsBehind k.log k.unmet x
fits-behind z k readers x f = search (rules, made_by-prefix, prefix-entries, ne_eqb)

-- the keeper's view knows its log
known_by : (z : Base) (k : KeeperView) (readers : List Reader) (keeper : ℕ) (owner : ℕ → ℕ) (j : ℕ)
    (role : Role) → Knows z k readers keeper owner j role → HasKeeper role
    → KnowsLog k.log k.unmet role
known_by z k readers keeper owner j role knows has = search rules

-- where the rule holds of a table, its words and its seats have one log: the keeper's
pub one_log : (z : Base) (s : State Request Role) → Agrees z s → HasOneLog z s
one_log z s r = record {
  log = r.k.log;
  unmet = r.k.unmet;
  legal = r.whole.keeper.legal;
  short = let most = (room z r.k.log r.whole.ready r.whole.keeper.legal).0 in omega arith;
  callers = λ i d h. let below = r.seats.callers i d h in let few = r.seats.few in omega arith;
  now = search (rules, now_of_log);
  kept = record {
    seat = r.seats.keeper;
    seated = record {
      role = r.seats.kept.role;
      at = r.seats.kept.at;
      is = search (rules, known_by, r.seats.each_seat);
    };
  };
  keeper = λ j k at. let told = r.seats.each_seat j (keeping k) at in search rules;
  reader = λ j x at. let told = r.seats.each_seat j (reading x) at in search (rules, fits-behind);
  taught = λ j x seen at. let told = r.seats.each_seat j (learning x seen) at in
      search (rules, fits-behind);
  together = λ j k x at. let told = r.seats.each_seat j (meeting k x) at in
      search (rules, fits-behind);
  tickets = λ j seen at. r.seats.each_seat j (ticket seen) at;
  apart = readers_apart z r.k r.readers s.views r.seats;
  one_keeper = keepers_one z r.k r.readers s.views r.seats;
}
