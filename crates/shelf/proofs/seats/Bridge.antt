-- What a step leaves as it was: the seats that it doesn't move, and the core's readers.
use Rattle.shelf.proofs.Names.{State, Request, Agrees, nat_tests, common_steps, rules, ◌≡◌, ◌≢◌, ℕ}
use Rattle.shelf.proofs.Names.{zero, suc, ◌<◌, ◌≤◌, List, [], ◌∷◌, ◌++◌, length, set, get_or, refl}
use Rattle.shelf.proofs.Names.{ap, sym, ◌∙◌, arith, All, slice_get, Some, None, IsPrefix, some}
use Rattle.shelf.proofs.Names.{some-injective, some-ne-none, get_elem?, Base, Reader, fresh_reader}
use Rattle.shelf.proofs.Names.{times, StoreEntry, KeeperView, ReaderView, Role, Fits, Knows}
use Rattle.shelf.proofs.Names.{HasReader, HasKeeper, IsSeated, AreSeats, set_else}
use mathlib.Core.Logic.{dite}
use Rattle.atomic_table.proofs.Lists.{at_set, at_longer, at_last}

-- a list stays the same where an element is written over by itself
pub set_get : (l : List ℕ) (i : ℕ) → set l i (get_or l i 0) ≡ l
set_get l i = grind (arith, nat_tests, common_steps)

-- a reader that is written at a number that has one is there
pub there_set : (xs : List Reader) (i : ℕ) (x y : Reader) → slice_get xs i ≡ Some x
    → slice_get (set xs i y) i ≡ Some y
there_set [] i x y is = absurd (cc)
there_set (z ∷ zs) zero x y is = refl
there_set (z ∷ zs) (suc i) x y is = there_set zs i x y is

-- a reader that is written at a number leaves those at other numbers as they were
pub there_else : (xs : List Reader) (i j : ℕ) (y : Reader) → j ≢ i
    → slice_get (set xs i y) j ≡ slice_get xs j
there_else [] i j y apart = refl
there_else (z ∷ zs) zero zero y apart = absurd (apart refl)
there_else (z ∷ zs) zero (suc j) y apart = refl
there_else (z ∷ zs) (suc i) zero y apart = refl
there_else (z ∷ zs) (suc i) (suc j) y apart = there_else zs i j y (λ e. apart (ap suc e))

-- a fact that holds of each seat still does where one seat has another view that it holds of
pub one_seat : (K : ℕ → Role → Type 0) (views : List Role) (id : ℕ) (w : Role) → K id w
    → ((j : ℕ) (v : Role) → j ≢ id → get_elem? views j ≡ some v → K j v)
    → (j : ℕ) (v : Role) → get_elem? (set views id w) j ≡ some v → K j v
one_seat K views id w mine others j v e = search (rules, at_set)

-- a reader still fits the keeper where another reader of the core has changed
pub fits_else : (z : Base) (k : KeeperView) (readers : List Reader) (n : ℕ) (y : Reader)
    (x : ReaderView) → x.number ≢ n → Fits z k readers x → Fits z k (set readers n y) x
fits_else z k readers n y x apart f = search (rules, there_else)

-- two readers whose seats differ have different numbers
pub apart : (owner : ℕ → ℕ) (n m seat : ℕ) → owner m ≡ seat → owner n ≢ seat → n ≢ m
apart owner n m seat is else e = else (ap owner e ∙ is)

-- what a seat knows stays so where the keeper's view and the core's readers are others, which the
-- reader in the seat fits, and what tickets have seen is still a prefix of the log
knows_else : (z : Base) (k u : KeeperView) (readers after : List Reader) (keeper : ℕ)
    (owner : ℕ → ℕ) (j : ℕ) (v : Role) → (j ≡ keeper → k ≡ u)
    → ((x : ReaderView) → owner x.number ≡ j → Fits z k readers x → Fits z u after x)
    → ((seen : List StoreEntry) → IsPrefix seen k.log → IsPrefix seen u.log)
    → Knows z k readers keeper owner j v → Knows z u after keeper owner j v
knows_else z k u readers after keeper owner j v same fit grown knows = search rules

-- a seat that is there is there with another view
pub set_there : (views : List Role) (i : ℕ) (v w : Role) → get_elem? views i ≡ some v
    → get_elem? (set views i w) i ≡ some w
set_there [] i v w is = absurd (some-ne-none v (sym is))
set_there (x ∷ xs) zero v w is = refl
set_there (x ∷ xs) (suc i) v w is = set_there xs i v w is

-- a seat of a kind stays one where a seat has another view of the same kind
pub seated_set : (views : List Role) (id : ℕ) (v w : Role) (seat : ℕ) (Kind : Role → Type 0)
    → get_elem? views id ≡ some v → (Kind v → Kind w) → IsSeated Kind views seat
    → IsSeated Kind (set views id w) seat
seated_set views id v w seat Kind at same it =
    search (rules, dite, set_there, some-injective, set_else)

-- a seat of a kind stays one where another seat is added at the end
pub seated_longer : (views : List Role) (w : Role) (seat : ℕ) (Kind : Role → Type 0)
    → IsSeated Kind views seat → IsSeated Kind (views ++ w ∷ []) seat
seated_longer views w seat Kind it = search (rules, at_longer)

-- a seat that is added at the end is of its view's kind
pub seated_last : (views : List Role) (w : Role) (Kind : Role → Type 0) → Kind w
    → IsSeated Kind (views ++ w ∷ []) (length views)
seated_last views w Kind is = record { role = w; at = at_last views w (length views) refl; is = is }

-- the seats agree again where a reader's seat has another view, and the core another reader of that
-- number
pub seats_reader : (z : Base) (k : KeeperView) (readers : List Reader) (views : List Role)
    (r : AreSeats z k readers views) (id : ℕ) (x : ReaderView) (y : Reader) (v w : Role)
    → get_elem? views id ≡ some v → ((q : ℕ) → HasReader q v → HasReader q w)
    → (HasKeeper v → HasKeeper w) → r.owner x.number ≡ id → Fits z k readers x
    → Knows z k (set readers x.number y) r.keeper r.owner id w
    → AreSeats z k (set readers x.number y) (set views id w)
seats_reader z k readers views r id x y v w at same kept own fits mine = record {
  keeper = r.keeper;
  owner = r.owner;
  few = r.few;
  callers = r.callers;
  fresh = let dealt = fits.dealt in search (rules, there_else, r.fresh);
  left = let here = fits.here in search (rules, there_else, r.left);
  seated = search (rules, seated_set, r.seated);
  kept = search (rules, seated_set);
  each_seat = one_seat (Knows z k (set readers x.number y) r.keeper r.owner) views id w mine
      (λ j v else there. knows_else z k k readers _ r.keeper r.owner j v (λ _. refl)
      (λ u is f. fits_else z k readers x.number y u
      (apart r.owner u.number x.number id own (λ e. else (sym is ∙ e))) f) (λ seen p. p)
      (r.each_seat j v there));
}

-- the seats agree again where the keeper's seat has another view, which the readers in other seats
-- fit
pub seats_keeper : (z : Base) (k u : KeeperView) (readers after : List Reader) (views : List Role)
    (r : AreSeats z k readers views) (id : ℕ) (w : Role) → id ≡ r.keeper
    → u.dealt ≤ z.setting.sessions → All (λ e. e.by < u.dealt) u.log
    → ((q : ℕ) → u.dealt ≤ q → q < z.setting.sessions → slice_get after q ≡ Some fresh_reader)
    → ((q : ℕ) (y : Reader) → 1 ≤ times q u.gone → slice_get after q ≡ Some y → y.announced ≡ None)
    → ((q : ℕ) → q < u.dealt → times q u.gone ≡ 0
    → IsSeated (HasReader q) (set views id w) (r.owner q)) → HasKeeper w
    → Knows z u after r.keeper r.owner id w
    → ((x : ReaderView) → r.owner x.number ≢ id → Fits z k readers x → Fits z u after x)
    → ((seen : List StoreEntry) → IsPrefix seen k.log → IsPrefix seen u.log)
    → AreSeats z u after (set views id w)
seats_keeper z k u readers after views r id w here few callers fresh left seated kept mine fit
    grown = record {
      keeper = r.keeper;
      owner = r.owner;
      few = few;
      callers = callers;
      fresh = fresh;
      left = left;
      seated = seated;
      kept = rw (← here) record { role = w; at = search (rules, set_there); is = kept };
      each_seat = one_seat (Knows z u after r.keeper r.owner) views id w mine
          (λ j v else there. knows_else z k u readers after r.keeper r.owner j v
          (λ e. absurd (else (e ∙ sym here))) (λ x is f. fit x (λ e. else (sym is ∙ e)) f) grown
          (r.each_seat j v there));
    }

-- a seat knows of its view, under another name too, what the rule says
pub seat_knows : (z : Base) (s : State Request Role) (r : Agrees z s) (id : ℕ) (v w : Role)
    → get_elem? s.views id ≡ some v → v ≡ w
    → Knows z r.k r.readers r.seats.keeper r.seats.owner id w
seat_knows z s r id v w at is = rw (← is) (r.seats.each_seat id v at)
