-- The keeper's last load, and what the seats say at the opening.
use Rattle.shelf.proofs.Names.{rules, ◌≡◌, ℕ, List, length, none, TableId, Me, step, keeps, Allows}
use Rattle.shelf.proofs.Names.{Base, now_at, AreOpeningWords, IsReady, Request, KeeperView, Role}
use Rattle.shelf.proofs.Names.{keeping, Agrees, store_at}
use Rattle.events.specs.declared.plan.Plan.{Plan}
use Rattle.shelf.specs.declared.word_table.Basis.{Basis}
use Rattle.shelf.specs.Seats.{IsOf, base_of}
use Rattle.shelf.proofs.seats.Bridge.{seat_knows}
use Rattle.events.specs.Words.{IsPlan}
use Rattle.shelf.specs.Steps.{ends}
use Rattle.shelf.proofs.steps.LookSteps.{nothing_moves}

-- the keeper's last load of NOW keeps the rule, and leaves the keeper's view as it was
pub ends_it : (z : Base) (slots id : ℕ) (me : Me Request Role) (k : KeeperView) → me.0 ≡ keeping k
    → Allows (Agrees z) slots id me now_at (λ n. n) (ends z (step slots now_at 0 0 none) me)
ends_it z slots id me k role s r homes at fits =
    let mine = seat_knows z s r id me.0 (keeping k) at role in
    (me.0, keeps, tt, nothing_moves z s r id now_at me.0 at, search rules)

-- a seat of a table as it is made is its store's, and has the store's sizes
pub is_of_new : (table seat : TableId) (key : Basis) (plan : Plan) (z : Base) (words : List ℕ)
    → table ≡ seat → base_of key ≡ z → table.words ≡ length words → AreOpeningWords z words
    → IsReady z → IsPlan z plan → IsOf (store_at seat key) table key seat plan
is_of_new table seat key plan z words at told count opening ready sizes = search rules
