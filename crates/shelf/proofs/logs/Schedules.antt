-- A schedule of the table is one run of the core.
use Rattle.shelf.proofs.Names.{rules, ◌≡◌, ℕ, List, [], ◌∷◌, refl, ⊎_elim, State, Event, StepReply}
use Rattle.shelf.proofs.Names.{Base, Request, Reader, KeeperView, Role, Agrees, Knows, HasKeeper}
use Rattle.shelf.proofs.Names.{IsEvent, IsNoEvent}
use Rattle.shelf.specs.Laws.{ruled, IsSchedule, IsOneRun}

-- an event, and then a schedule that is one run of the core, are one run
by_event : (z : Base) (s : State Request Role) (r : Agrees z s) (t : State Request Role)
    (ts : List (State Request Role)) (e : Event) (answer : StepReply)
    (it : IsEvent z s r t e answer) → IsOneRun z t it.after ts → IsOneRun z s r (t ∷ ts)
by_event z s r t ts e answer it rest =
    record {
      after = rest.after;
      events = e ∷ rest.events;
      answers = answer ∷ rest.answers;
      run = (ruled z t it.after, it.stored, it.done, it.spares, rest.run);
    }

-- a step that is no event, and then a schedule that is one run of the core, are one run
by_none : (z : Base) (s : State Request Role) (r : Agrees z s) (t : State Request Role)
    (ts : List (State Request Role)) (it : IsNoEvent z s r t) → IsOneRun z t it.after ts
    → IsOneRun z s r (t ∷ ts)
by_none z s r t ts it rest =
    record {
      after = rest.after;
      events = rest.events;
      answers = rest.answers;
      run = rw (← it.same) rest.run;
    }

-- a schedule of steps of a table is one run of the core
pub one_run : (z : Base) (s : State Request Role) (ts : List (State Request Role)) (r : Agrees z s)
    → IsSchedule z s ts → IsOneRun z s r ts
one_run z s [] r steps = record { after = r; events = []; answers = []; run = refl }
one_run z s (t ∷ ts) r steps =
    ⊎_elim (λ it. by_event z s r t ts it.0 it.1 it.2 (one_run z t ts it.2.after steps.1))
    (λ it. by_none z s r t ts it (one_run z t ts it.after steps.1)) (steps.0 r)

-- a seat that has the keeper's view has the same one by any two proofs of the rule
kept_is : (z : Base) (k : KeeperView) (readers : List Reader) (keeper : ℕ) (owner : ℕ → ℕ) (j : ℕ)
    (l : KeeperView) (others : List Reader) (other : ℕ) (owns : ℕ → ℕ) (role : Role)
    → Knows z k readers keeper owner j role → Knows z l others other owns j role → HasKeeper role
    → k ≡ l
kept_is z k readers keeper owner j l others other owns role knows too has = search rules

-- any two proofs of the rule of a table have the same keeper
pub one_keeper_view : (z : Base) (s : State Request Role) (r q : Agrees z s) → r.k ≡ q.k
one_keeper_view z s r q =
    let it = r.seats.kept in
    let mine = r.seats.each_seat r.seats.keeper it.role it.at in
    let its = q.seats.each_seat r.seats.keeper it.role it.at in
    kept_is _ _ _ _ _ _ _ _ _ _ it.role mine its it.is
