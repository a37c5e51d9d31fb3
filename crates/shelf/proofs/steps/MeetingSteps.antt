-- The steps of a meeting, and of giving a reader up, keep the rule.
use Rattle.shelf.proofs.Names.{rules, ◌≡◌, ◌≢◌, ℕ, [], ◌∷◌, ◌++◌, length, set, refl, sym, ◌∙◌}
use Rattle.shelf.proofs.Names.{ne_eqb, Some, None, eq-eqb, ◌⊎◌, some, none, get_elem?, State, Me}
use Rattle.shelf.proofs.Names.{step, keeps, Allows, Splits, Joins, set_else, Base, now_at, Request}
use Rattle.shelf.proofs.Names.{KeeperView, ReaderView, Role, idle, keeping, reading, meeting}
use Rattle.shelf.proofs.Names.{as_reader, Knows, HasReader, IsSeated, AreSeats, Agrees, loaded, met}
use Rattle.shelf.proofs.Names.{without}
use Rattle.shelf.proofs.seats.Bridge.{set_get, seat_knows, there_else, fits_else, apart, set_there}
use Rattle.shelf.proofs.seats.Bridge.{seated_set, seated_longer, seated_last, seats_keeper}
use Rattle.shelf.specs.Steps.{met_by, meets, gives_up}
use Rattle.shelf.proofs.seats.HandedSeats.{one_new, stays_moved, same_seats, same_rule, two_seats}
use Rattle.shelf.proofs.seats.Moved.{moved, moved-each, moved-here}
use Rattle.shelf.proofs.steps.ReaderSteps.{fits-loaded, whole-loaded}

-- the seats agree again once a reader's view is laid in the keeper's seat
pub together_seats : (z : Base) (s : State Request Role) (r : Agrees z s) (id other : ℕ)
    (k : KeeperView) (x : ReaderView) → get_elem? s.views id ≡ some (keeping k) → other ≢ id
    → get_elem? (set s.views id (meeting k x)) other ≡ some (reading x)
    → AreSeats z r.k r.readers (set (set s.views id (meeting k x)) other idle)
together_seats z s r id other k x at else there =
    let mine = r.seats.each_seat id (keeping k) at in
    let its = r.seats.each_seat other (reading x) (sym (set_else s.views id other (meeting k x) else)
    ∙ there) in
    same_seats z s r (moved r.seats.owner x.number id) _
    (λ q below none. moved-each r.seats.owner x.number id q (IsSeated (HasReader q) _)
    (λ here. record {
      role = meeting k x;
      at = search (rules, set_else, set_there);
      is = sym here;
    })
    (λ apart. search (rules, seated_set)))
    (search (rules, seated_set))
    (two_seats (Knows z r.k r.readers r.seats.keeper _) s.views id (meeting k x) other idle
    (mine.0, mine.1, moved-here r.seats.owner x.number id, its.1) tt (search (rules, stays_moved)))

-- laying a reader's view in the keeper's seat keeps the rule
pub joins : (z : Base) (id other : ℕ) (k : KeeperView) (x : ReaderView)
    → Joins (Agrees z) id (keeping k) other (reading x) (meeting k x) idle
joins z id other k x s r at else there = search (rules, same_rule, together_seats)

-- the seats agree again once the reader has its view back, in a seat of its own
pub apart_seats : (z : Base) (s : State Request Role) (r : Agrees z s) (id : ℕ) (k : KeeperView)
    (x : ReaderView) → get_elem? s.views id ≡ some (meeting k x)
    → AreSeats z r.k r.readers (set s.views id (keeping k) ++ reading x ∷ [])
apart_seats z s r id k x at =
    let mine = r.seats.each_seat id (meeting k x) at in
    let new = length (set s.views id (keeping k)) in
    same_seats z s r (moved r.seats.owner x.number new) _
    (λ q below none. moved-each r.seats.owner x.number new q (IsSeated (HasReader q) _)
    (λ here. seated_last _ (reading x) (HasReader q) (sym here))
    (λ apart. search (rules, seated_longer, seated_set)))
    (search (rules, seated_longer, seated_set))
    (one_new (Knows z r.k r.readers r.seats.keeper _) s.views id (keeping k) (reading x)
    (mine.0, mine.1) (moved-here r.seats.owner x.number new, mine.3) (search (rules, stays_moved)))

-- taking a reader's view out of the keeper's seat keeps the rule
pub parts : (z : Base) (id : ℕ) (k : KeeperView) (x : ReaderView)
    → Splits (Agrees z) id (meeting k x) (keeping k) (reading x)
parts z id k x s r at = same_rule z s r _ (apart_seats z s r id k x at)

-- the seats agree again once a reader has met the keeper
pub met_seats : (z : Base) (s : State Request Role) (r : Agrees z s) (id : ℕ) (x : ReaderView)
    → get_elem? s.views id ≡ some (meeting r.k x) → (r.k.unmet ≡ None) ⊎ (r.k.unmet ≡ Some x.number)
    → AreSeats z (met r.k) (set r.readers x.number (as_reader (loaded z r.k.log x)))
    (set s.views id (meeting (met r.k) (met_by z r.k x)))
met_seats z s r id x at unmet =
    let mine = r.seats.each_seat id (meeting r.k x) at in
    seats_keeper z r.k (met r.k) r.readers _ s.views r.seats id _ mine.0 r.seats.few r.seats.callers
    (search (rules, there_else)) (search (rules, there_else)) (search (rules, seated_set))
    tt (mine.0, refl, mine.2, let g = fits-loaded z r.k r.readers x mine.3 in search rules)
    (λ v else g. let other = apart r.seats.owner v.number x.number id mine.2 else in
    let h = fits_else z r.k r.readers x.number (as_reader (loaded z r.k.log x)) v other g in
    search (rules, ne_eqb))
    (λ seen p. p)

-- the load of a meeting keeps the rule, and after it the reader has met the keeper
pub meets_it : (z : Base) (slots id : ℕ) (me : Me Request Role) (k : KeeperView) (x : ReaderView)
    → me.0 ≡ meeting k x
    → (k.unmet ≡ None) ⊎ (k.unmet ≡ Some x.number)
    → Allows (Agrees z) slots id me now_at (λ n. n) (meets z (step slots now_at 0 0 none) me)
meets_it z slots id me k x role unmet s r homes at small =
    let mine = seat_knows z s r id me.0 (meeting k x) at role in (
      meeting (met r.k) (met_by z r.k x),
      keeps,
      tt,
      record {
        k = met r.k;
        readers = set r.readers x.number (as_reader (loaded z r.k.log x));
        whole = whole-loaded z s.words r.k r.readers x now_at r.whole mine.3;
        seats = met_seats z s r id x (search rules) (rw (← mine.1) unmet);
      },
      search rules,
    )

-- the seats agree again once a reader that has announced nothing is given up
pub without_seats : (z : Base) (s : State Request Role) (r : Agrees z s) (id : ℕ) (x : ReaderView)
    → get_elem? s.views id ≡ some (meeting r.k x) → x.announced ≡ None
    → AreSeats z (without r.k x) r.readers (set s.views id (keeping (without r.k x)))
without_seats z s r id x at quiet =
    let mine = r.seats.each_seat id (meeting r.k x) at in
    seats_keeper z r.k (without r.k x) r.readers r.readers s.views r.seats id
    (keeping (without r.k x)) mine.0 r.seats.few r.seats.callers r.seats.fresh
    (search (rules, ne_eqb)) (search (rules, seated_set, eq-eqb)) tt (mine.0, refl)
    (search (rules, ne_eqb, apart)) (λ seen p. p)

-- the load after which a reader that has announced nothing is given up keeps the rule
pub gives_it_up : (z : Base) (slots id : ℕ) (me : Me Request Role) (k : KeeperView) (x : ReaderView)
    → me.0 ≡ meeting k x → x.announced ≡ None
    → Allows (Agrees z) slots id me now_at (λ n. n) (gives_up z (step slots now_at 0 0 none) me)
gives_it_up z slots id me k x role quiet s r homes at small =
    let mine = seat_knows z s r id me.0 (meeting k x) at role in (
      keeping (without r.k x),
      keeps,
      tt,
      record {
        k = without r.k x;
        readers = r.readers;
        whole = rw (set_get s.words now_at) r.whole;
        seats = without_seats z s r id x (search rules) quiet;
      },
      search rules,
    )
