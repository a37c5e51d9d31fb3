-- The steps of a ticket keep the rule.
use Rattle.shelf.proofs.Names.{rules, ◌≡◌, ◌≢◌, ℕ, List, [], ◌∷◌, ◌++◌, set, sym, ◌∙◌, some, none}
use Rattle.shelf.proofs.Names.{get_elem?, State, Me, step, keeps, Allows, Splits, Joins, set_else}
use Rattle.shelf.proofs.Names.{Base, now_at, StoreEntry, Request, KeeperView, ReaderView, Role}
use Rattle.shelf.proofs.Names.{idle, keeping, reading, ticket, learning, as_reader, Knows, AreSeats}
use Rattle.shelf.proofs.Names.{Agrees, loaded}
use Rattle.shelf.proofs.seats.Bridge.{seat_knows, seated_set, seated_longer}
use Rattle.shelf.proofs.seats.HandedSeats.{one_new, same_seats, same_rule, two_seats}
use Rattle.shelf.proofs.logs.LogParts.{prefix-itself}
use Rattle.shelf.specs.Steps.{learns}
use Rattle.shelf.proofs.steps.ReaderSteps.{fits-loaded, whole-loaded, seats_loaded}

-- the seats agree again once a ticket is cut from the keeper's seat
pub cut_seats : (z : Base) (s : State Request Role) (r : Agrees z s) (id : ℕ) (k : KeeperView)
    → get_elem? s.views id ≡ some (keeping k)
    → AreSeats z r.k r.readers (set s.views id (keeping k) ++ ticket k.log ∷ [])
cut_seats z s r id k at =
    let mine = r.seats.each_seat id (keeping k) at in
    same_seats z s r r.seats.owner _ (search (rules, seated_longer, seated_set))
    (search (rules, seated_longer, seated_set))
    (one_new (Knows z r.k r.readers r.seats.keeper r.seats.owner) s.views id (keeping k)
    (ticket k.log) mine (rw mine.1 (prefix-itself r.k.log))
    (λ i w not_id at_i. r.seats.each_seat i w at_i))

-- cutting a ticket from the keeper's seat keeps the rule
pub cuts_ticket : (z : Base) (id : ℕ) (k : KeeperView)
    → Splits (Agrees z) id (keeping k) (keeping k) (ticket k.log)
cuts_ticket z id k s r at = same_rule z s r _ (cut_seats z s r id k at)

-- the seats agree again once a ticket's view is laid in a reader's seat
pub handed_seats : (z : Base) (s : State Request Role) (r : Agrees z s) (id other : ℕ)
    (x : ReaderView) (seen : List StoreEntry) → get_elem? s.views id ≡ some (reading x) → other ≢ id
    → get_elem? (set s.views id (learning x seen)) other ≡ some (ticket seen)
    → AreSeats z r.k r.readers (set (set s.views id (learning x seen)) other idle)
handed_seats z s r id other x seen at else there =
    let mine = r.seats.each_seat id (reading x) at in
    let its = r.seats.each_seat other (ticket seen)
    (sym (set_else s.views id other (learning x seen) else) ∙ there) in
    same_seats z s r r.seats.owner _ (search (rules, seated_set)) (search (rules, seated_set))
    (two_seats (Knows z r.k r.readers r.seats.keeper r.seats.owner) s.views id
    (learning x seen) other idle (mine.0, mine.1, its) tt
    (λ j v not_id not_it at_j. r.seats.each_seat j v at_j))

-- laying a ticket's view in a reader's seat keeps the rule
pub joins_ticket : (z : Base) (id other : ℕ) (x : ReaderView) (seen : List StoreEntry)
    → Joins (Agrees z) id (reading x) other (ticket seen) (learning x seen) idle
joins_ticket z id other x seen s r at else there = search (rules, same_rule, handed_seats)

-- the load after which a reader has seen all that a ticket had keeps the rule
pub learns_it : (z : Base) (slots id : ℕ) (me : Me Request Role) (x : ReaderView)
    (seen : List StoreEntry) → me.0 ≡ learning x seen
    → Allows (Agrees z) slots id me now_at (λ n. n) (learns z (step slots now_at 0 0 none) me)
learns_it z slots id me x seen role s r homes at small =
    let mine = seat_knows z s r id me.0 (learning x seen) at role in
    let fits = fits-loaded z r.k r.readers x mine.1 in (
      reading (loaded z r.k.log x),
      keeps,
      tt,
      record {
        k = r.k;
        readers = set r.readers x.number (as_reader (loaded z r.k.log x));
        whole = whole-loaded z s.words r.k r.readers x now_at r.whole mine.1;
        seats = seats_loaded z s r id x (learning x seen) (search rules) (λ q e. e) (λ e. e) mine.0
            mine.1;
      },
      search rules,
    )
