-- Which seat has a reader's view, and which the keeper's.
use Rattle.shelf.proofs.Names.{rules, ◌≡◌, ℕ, List, sym, ◌∙◌, some, get_elem?, Base, Reader}
use Rattle.shelf.proofs.Names.{KeeperView, Role, AreSeats, Knows, HasReader, HasKeeper}

-- a reader's view stands in the seat of its owner
owner_is : (z : Base) (k : KeeperView) (readers : List Reader) (keeper : ℕ) (owner : ℕ → ℕ)
    (j r : ℕ) (role : Role) → Knows z k readers keeper owner j role → HasReader r role → owner r ≡ j
owner_is z k readers keeper owner j r role knows has = search rules

-- the keeper's view stands in its seat
keeper_is : (z : Base) (k : KeeperView) (readers : List Reader) (keeper : ℕ) (owner : ℕ → ℕ) (j : ℕ)
    (role : Role) → Knows z k readers keeper owner j role → HasKeeper role → j ≡ keeper
keeper_is z k readers keeper owner j role knows has = search rules

-- no two seats have one reader's view
pub readers_apart : (z : Base) (k : KeeperView) (readers : List Reader) (views : List Role)
    → AreSeats z k readers views → (i j r : ℕ) (u v : Role) → get_elem? views i ≡ some u
    → get_elem? views j ≡ some v
    → HasReader r u → HasReader r v → i ≡ j
readers_apart z k readers views seats i j r u v at_i at_j here there =
    sym (owner_is z k readers seats.keeper seats.owner i r u (seats.each_seat i u at_i) here)
    ∙ owner_is z k readers seats.keeper seats.owner j r v (seats.each_seat j v at_j) there

-- one seat at most has the keeper's view
pub keepers_one : (z : Base) (k : KeeperView) (readers : List Reader) (views : List Role)
    → AreSeats z k readers views → (i j : ℕ) (u v : Role) → get_elem? views i ≡ some u
    → get_elem? views j ≡ some v
    → HasKeeper u → HasKeeper v → i ≡ j
keepers_one z k readers views seats i j u v at_i at_j here there =
    keeper_is z k readers seats.keeper seats.owner i u (seats.each_seat i u at_i) here
    ∙ sym (keeper_is z k readers seats.keeper seats.owner j v (seats.each_seat j v at_j) there)
