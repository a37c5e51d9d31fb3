-- Seats that hand views to one another, while words and the core's state stay.
use Rattle.shelf.proofs.Names.{rules, ◌≡◌, ◌≢◌, ℕ, zero, suc, List, [], ◌∷◌, ◌++◌, length, set}
use Rattle.shelf.proofs.Names.{refl, ap, sym, ⊎_elim, ◌<◌, ◌⊎◌, inl, inr, some, some-injective}
use Rattle.shelf.proofs.Names.{some-ne-none, get_elem?, State, Base, Reader, times, Request}
use Rattle.shelf.proofs.Names.{KeeperView, Role, with_views, Knows, HasReader, HasKeeper, IsSeated}
use Rattle.shelf.proofs.Names.{AreSeats, Agrees}
use Rattle.shelf.proofs.seats.Moved.{moved, moved-else}
use Rattle.shelf.proofs.seats.Bridge.{one_seat}

-- a seat of a list with one more at its end is a seat of the list, or the new one
one_more : (views : List Role) (w : Role) (j : ℕ) (v : Role)
    → get_elem? (views ++ w ∷ []) j ≡ some v → (get_elem? views j ≡ some v)
    ⊎ ((j ≡ length views) × (w ≡ v))
one_more [] w zero v e = inr (refl, some-injective w v e)
one_more [] w (suc j) v e = absurd (some-ne-none v (sym e))
one_more (x ∷ xs) w zero v e = inl e
one_more (x ∷ xs) w (suc j) v e =
    ⊎_elim (λ t. inl t) (λ t. inr (ap suc t.0, t.1)) (one_more xs w j v e)

-- what a seat knows stays so where a reader of another seat has moved
pub stays_moved : (z : Base) (k : KeeperView) (readers : List Reader) (keeper : ℕ) (owner : ℕ → ℕ)
    (r to : ℕ) (j : ℕ) (v : Role) → j ≢ owner r
    → Knows z k readers keeper owner j v → Knows z k readers keeper (moved owner r to) j v
stays_moved z k readers keeper owner r to j v else knows = search (rules, moved-else)

-- other seats agree with the rule's keeper and readers, where what each of them knows is so
pub same_seats : (z : Base) (s : State Request Role) (r : Agrees z s) (owner : ℕ → ℕ)
    (views : List Role)
    → ((q : ℕ) → q < r.k.dealt → times q r.k.gone ≡ 0 → IsSeated (HasReader q) views (owner q))
    → IsSeated HasKeeper views r.seats.keeper
    → ((j : ℕ) (v : Role) → get_elem? views j ≡ some v
    → Knows z r.k r.readers r.seats.keeper owner j v) → AreSeats z r.k r.readers views
same_seats z s r owner views seated kept each = record {
  keeper = r.seats.keeper;
  owner = owner;
  few = r.seats.few;
  callers = r.seats.callers;
  fresh = r.seats.fresh;
  left = r.seats.left;
  seated = seated;
  kept = kept;
  each_seat = each;
}

-- the rule holds still where the seats are others, and the words and the core's readers are not
pub same_rule : (z : Base) (s : State Request Role) (r : Agrees z s) (views : List Role)
    → AreSeats z r.k r.readers views → Agrees z (with_views s views)
same_rule z s r views seats = search rules

-- a fact that holds of each seat still does where two seats have other views that it holds of
pub two_seats : (K : ℕ → Role → Type 0) (views : List Role) (id : ℕ) (w : Role) (other : ℕ)
    (u : Role) → K id w → K other u
    → ((j : ℕ) (v : Role) → j ≢ id → j ≢ other → get_elem? views j ≡ some v → K j v)
    → (j : ℕ) (v : Role) → get_elem? (set (set views id w) other u) j ≡ some v → K j v
two_seats K views id w other u mine its others =
    one_seat K (set views id w) other u its (λ j v else at.
    one_seat (λ i x. i ≢ other → K i x) views id w (λ _. mine)
    (λ i x not_id there not_other. others i x not_id not_other there) j v at else)

-- a fact that holds of each seat still does where one seat has another view, and one more seat is at
-- the end, and it holds of these
pub one_new : (K : ℕ → Role → Type 0) (views : List Role) (id : ℕ) (w u : Role) → K id w
    → K (length (set views id w)) u
    → ((j : ℕ) (v : Role) → j ≢ id → get_elem? views j ≡ some v → K j v)
    → (j : ℕ) (v : Role) → get_elem? (set views id w ++ u ∷ []) j ≡ some v → K j v
one_new K views id w u mine its others j v there =
    ⊎_elim (λ before. one_seat K views id w mine others j v before)
    (λ last. rw (last.0, ← last.1) its) (one_more (set views id w) u j v there)
