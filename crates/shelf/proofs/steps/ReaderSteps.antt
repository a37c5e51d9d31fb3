-- Each step of a reader keeps the rule.
use Rattle.shelf.proofs.Names.{rules, ◌≡◌, ℕ, List, set, get_or, Option, Some, None, none, some}
use Rattle.shelf.proofs.Names.{get_elem?, State, Me, step, keeps, Allows, Seen, From, Exact, Base}
use Rattle.shelf.proofs.Names.{now_at, pin_at, pin_word, Reader, IsWhole, version_of_now, Request}
use Rattle.shelf.proofs.Names.{KeeperView, ReaderView, Role, reading, entries, as_reader, core_of}
use Rattle.shelf.proofs.Names.{Fits, HasReader, HasKeeper, AreSeats, Agrees, loaded}
use Rattle.shelf.proofs.seats.Bridge.{seat_knows, set_get, there_set, seats_reader}
use Rattle.events.specs.Views.{newest_seen}
use Rattle.events.specs.Steps.{to_confirm}
use Rattle.shelf.specs.Steps.{announcing, confirming, leaving, announces, confirms, leaves, taken}
use Rattle.events.proofs.logs.LogLemmas.{newest-beginning}
use Rattle.events.proofs.invariants.SoundReader.{next_hold_cases}
use Rattle.events.proofs.steps.StepLemmas.{keeps-announce, keeps-confirm, keeps-leave, keeps-load}
use Rattle.shelf.proofs.logs.LogParts.{prefix-itself, prefix-entries, made_by-prefix}

-- a reader fits the keeper also with another announcement, where it holds nothing else
fits-again : (z : Base) (k : KeeperView) (readers : List Reader) (x : ReaderView)
    (announced : Option Seen) (holds : Option ℕ) → ((v : ℕ) → holds ≡ Some v → x.holds ≡ Some v)
    → Fits z k readers x
    → Fits z k (set readers x.number
    (as_reader record x { announced = announced; holds = holds }))
    record x { announced = announced; holds = holds }
fits-again z k readers x announced holds less f = search (rules, there_set)

-- the seats agree again once a reader has another announcement, and holds nothing else
pub reader_seats : (z : Base) (s : State Request Role) (r : Agrees z s) (id : ℕ) (x : ReaderView)
    (announced : Option Seen) (holds : Option ℕ) → get_elem? s.views id ≡ some (reading x)
    → ((v : ℕ) → holds ≡ Some v → x.holds ≡ Some v)
    → AreSeats z r.k (set r.readers x.number
    (as_reader record x { announced = announced; holds = holds }))
    (set s.views id (reading record x { announced = announced; holds = holds }))
reader_seats z s r id x announced holds at less =
    let mine = r.seats.each_seat id (reading x) at in
    seats_reader z r.k r.readers s.views r.seats id x _ (reading x) _ at (λ q e. e) (λ e. e) mine.0
    mine.1 (mine.0, fits-again z r.k r.readers x announced holds less mine.1)

-- a reader's store of what it announces keeps the rule
pub announces_it : (z : Base) (slots id word : ℕ) (me : Me Request Role) (x : ReaderView)
    → me.0 ≡ reading x → x.announced ≡ None
    → word ≡ pin_word (Some (From (newest_seen z (as_reader x))))
    → Allows (Agrees z) slots id me (pin_at x.number) (λ _. word)
    (λ _. announces z (step slots (pin_at x.number) word 0 none) me word)
announces_it z slots id word me x role quiet is s r homes at small =
    let there = (seat_knows z s r id me.0 (reading x) at role).1.there in (
      reading (announcing z x),
      keeps,
      tt,
      record {
        k = r.k;
        readers = set r.readers x.number (as_reader (announcing z x));
        whole = rw is (keeps-announce (core_of z s.words r.k r.readers) x.number
            (as_reader x) r.whole there quiet);
        seats = reader_seats z s r id x _ x.holds (search rules) (λ v e. e);
      },
      search rules,
    )

-- the version that a reader is to confirm is the one that it holds
pub confirmed_held : (announced : Option Seen) (holds : Option ℕ) (v : ℕ)
    → to_confirm announced holds ≡ Some v → holds ≡ Some v
confirmed_held announced holds v is = search rules

-- a reader's store of the one version that it holds keeps the rule
pub confirms_it : (z : Base) (slots id word : ℕ) (me : Me Request Role) (x : ReaderView) (v : ℕ)
    → me.0 ≡ reading x → x.holds ≡ Some v → word ≡ pin_word (Some (Exact v))
    → Allows (Agrees z) slots id me (pin_at x.number) (λ _. word)
    (λ _. confirms (step slots (pin_at x.number) word 0 none) me word)
confirms_it z slots id word me x v role held is s r homes at small =
    let there = (seat_knows z s r id me.0 (reading x) at role).1.there in (
      reading (confirming v x),
      keeps,
      tt,
      record {
        k = r.k;
        readers = set r.readers x.number (as_reader (confirming v x));
        whole = rw is (keeps-confirm (core_of z s.words r.k r.readers) x.number
            (as_reader x) v r.whole there held);
        seats = reader_seats z s r id x _ x.holds (search rules) (λ v e. e);
      },
      search rules,
    )

-- a reader's store of 0 keeps the rule
pub leaves_it : (z : Base) (slots id word : ℕ) (me : Me Request Role) (x : ReaderView)
    → me.0 ≡ reading x → word ≡ pin_word None
    → Allows (Agrees z) slots id me (pin_at x.number) (λ _. word)
    (λ _. leaves (step slots (pin_at x.number) word 0 none) me word)
leaves_it z slots id word me x role is s r homes at small =
    let there = (seat_knows z s r id me.0 (reading x) at role).1.there in (
      reading (leaving x),
      keeps,
      tt,
      record {
        k = r.k;
        readers = set r.readers x.number (as_reader (leaving x));
        whole = rw is (keeps-leave (core_of z s.words r.k r.readers) x.number
            (as_reader x) r.whole there);
        seats = reader_seats z s r id x None None (search rules) (λ v e. absurd (cc));
      },
      search rules,
    )

-- a reader that fits the keeper fits it also after it has loaded NOW
pub fits-loaded : (z : Base) (k : KeeperView) (readers : List Reader) (x : ReaderView)
    → Fits z k readers x
    → Fits z k (set readers x.number (as_reader (loaded z k.log x))) (loaded z k.log x)
fits-loaded z k readers x f =
    let grown = made_by-prefix x.number x.seen k.log f.began in
    search (rules, there_set, prefix-itself, next_hold_cases, newest-beginning, prefix-entries)

-- the seats agree again once a reader has loaded NOW, whatever else stood in its seat
pub seats_loaded : (z : Base) (s : State Request Role) (r : Agrees z s) (id : ℕ) (x : ReaderView)
    (old : Role) → get_elem? s.views id ≡ some old → ((q : ℕ) → HasReader q old → x.number ≡ q)
    → (HasKeeper old → ⊥)
    → r.seats.owner x.number ≡ id → Fits z r.k r.readers x
    → AreSeats z r.k (set r.readers x.number (as_reader (loaded z r.k.log x)))
    (set s.views id (reading (loaded z r.k.log x)))
seats_loaded z s r id x old at same other own f = search (rules, seats_reader, fits-loaded)

-- the core's state is whole after a load by which a reader sees the whole log
pub whole-loaded : (z : Base) (words : List ℕ) (k : KeeperView) (readers : List Reader)
    (x : ReaderView) (i : ℕ) → IsWhole (core_of z words k readers) → Fits z k readers x
    → IsWhole (core_of z (set words i (get_or words i 0)) k
    (set readers x.number (as_reader (loaded z k.log x))))
whole-loaded z words k readers x i whole f =
    let version = version_of_now z (entries k.log) whole.ready whole.keeper.legal in
    rw (set_get words i, ← version, ← whole.keeper.now)
    (keeps-load (core_of z words k readers) x.number (as_reader x) whole f.there)

-- a reader's load of NOW keeps the rule, and shows it the whole log
pub takes_it : (z : Base) (slots id : ℕ) (me : Me Request Role) (x : ReaderView) → me.0 ≡ reading x
    → Allows (Agrees z) slots id me now_at (λ n. n) (taken z (step slots now_at 0 0 none) me)
takes_it z slots id me x role s r homes at small =
    let mine = seat_knows z s r id me.0 (reading x) at role in
    let fits = fits-loaded z r.k r.readers x mine.1 in (
      reading (loaded z r.k.log x),
      keeps,
      tt,
      record {
        k = r.k;
        readers = set r.readers x.number (as_reader (loaded z r.k.log x));
        whole = whole-loaded z s.words r.k r.readers x now_at r.whole mine.1;
        seats = seats_loaded z s r id x (reading x) (search rules) (λ q e. e) (λ e. e) mine.0 mine.1;
      },
      search rules,
    )
