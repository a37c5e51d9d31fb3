-- Each step of the keeper keeps the rule.
use Rattle.shelf.proofs.Names.{AreSeats, rules, ◌≡◌, ◌==◌, ℕ, zero, suc, ◌+◌, ◌*◌, ◌<◌, ◌≤◌, List}
use Rattle.shelf.proofs.Names.{[], ◌∷◌, length, set, get_or, refl, sym, arith, Option, Some, None}
use Rattle.shelf.proofs.Names.{slice_get, some, none, get_elem?, State, Me, step, keeps, Allows}
use Rattle.shelf.proofs.Names.{Publish, Collect, Seen, From, Exact, refused, newest, Base, now_at}
use Rattle.shelf.proofs.Names.{pin_at, pin_word, now_of, Reader, story, blocks, steps_before}
use Rattle.shelf.proofs.Names.{write_of, IsWhole, IsTidy-legal, story-push, Request, Task}
use Rattle.shelf.proofs.Names.{KeeperView, ReaderView, Role, keeping, entries, core_of, Fits}
use Rattle.shelf.proofs.Names.{Agrees, with_command, wrote, scanned, signed_of, committed}
use Rattle.shelf.proofs.Names.{MayCommit}
use Rattle.shelf.proofs.seats.Bridge.{seat_knows, set_get, seated_set, seats_keeper}
use prog.Atomic.{either}
use Rattle.atomic_table.proofs.Lists.{exchanged}
use Rattle.events.proofs.steps.StepLemmas.{in_hand, keeps-order, keeps-write, keeps-scan}
use Rattle.events.proofs.steps.StepLemmas.{keeps-commit}
use Rattle.shelf.proofs.logs.LogParts.{prefix-push, entries-push, made_by-append, callers-push}
use Rattle.shelf.specs.Steps.{orders, writes, scans, commits}

-- the seats agree again where the current command becomes another, or more of it is done
pub task_seats : (z : Base) (s : State Request Role) (r : Agrees z s) (id : ℕ) (l : KeeperView)
    (task : Option Task) → get_elem? s.views id ≡ some (keeping l) → id ≡ r.seats.keeper
    → AreSeats z record r.k { task = task } r.readers
    (set s.views id (keeping record r.k { task = task }))
task_seats z s r id l task at here =
    seats_keeper z r.k record r.k { task = task } r.readers r.readers s.views r.seats id
    (keeping record r.k { task = task }) here r.seats.few r.seats.callers r.seats.fresh r.seats.left
    (search (rules, seated_set)) tt (here, refl) (search rules) (λ seen p. p)

-- the rule holds still where the current command becomes another, or more of it is done
task_moves : (z : Base) (s : State Request Role) (r : Agrees z s) (id : ℕ) (words : List ℕ)
    (l : KeeperView) (task : Option Task) → get_elem? s.views id ≡ some (keeping l)
    → id ≡ r.seats.keeper
    → IsWhole (core_of z words record r.k { task = task } r.readers)
    → Agrees z record {
      words = words;
      homes = s.homes;
      views = set s.views id (keeping record r.k { task = task });
    }
task_moves z s r id words l task at here whole = record {
  k = record r.k { task = task };
  readers = r.readers;
  whole = whole;
  seats = task_seats z s r id l task at here;
}

-- the keeper's order of a command, an exchange of NOW by its own value, keeps the rule
pub orders_it : (z : Base) (slots id word : ℕ) (me : Me Request Role) (k : KeeperView) (a : Request)
    → me.0 ≡ keeping k → refused z.setting (story z (entries k.log)) a.command ≡ None
    → Allows (Agrees z) slots id me now_at (λ n. either (n == word) word n)
    (orders (step slots now_at word word (some a)) me)
orders_it z slots id word me k a role accepted s r homes at small =
    let mine = seat_knows z s r id me.0 (keeping k) at role in
    let stays = exchanged (get_or s.words now_at 0) word word (λ m. m ≡ get_or s.words now_at 0)
    (λ h. sym h) (λ h. refl) in (
      keeping (with_command r.k a.by a.command),
      keeps,
      tt,
      task_moves z s r id _ k (with_command r.k a.by a.command).task (search rules) mine.0
          (rw (stays, set_get s.words now_at) (keeps-order (core_of z s.words r.k r.readers)
          a.command r.whole (rw (← mine.1) accepted))),
      search rules,
    )

-- the keeper's store of the next word of a publish keeps the rule
pub writes_it : (z : Base) (slots id i word : ℕ) (me : Me Request Role) (k : KeeperView) (t : Task)
    → me.0 ≡ keeping k → k.task ≡ Some t → t.hand.command ≡ Publish
    → t.hand.done < steps_before z (blocks z (entries k.log)) Publish
    → i ≡ (write_of z (story z (entries k.log)) (blocks z (entries k.log)) t.hand.done).at
    → word ≡ (write_of z (story z (entries k.log)) (blocks z (entries k.log)) t.hand.done).word
    → Allows (Agrees z) slots id me i (λ _. word) (λ _. writes (step slots i word 0 none) me word)
writes_it z slots id i word me k t role task publish more place value s r homes at small =
    let mine = seat_knows z s r id me.0 (keeping k) at role in (
      keeping (wrote r.k t),
      keeps,
      tt,
      task_moves z s r id _ k (wrote r.k t).task (search rules) mine.0
          (rw (place, value, mine.1) (keeps-write (core_of z s.words r.k r.readers) t.hand
          (search (rules, in_hand)) publish
          (rw (← mine.1) more)).whole),
      search rules,
    )

-- the core has a reader for each number below their count
pub some_reader : (xs : List Reader) (i : ℕ) → i < length xs → (y : Reader)
    × (slice_get xs i ≡ Some y)
some_reader [] i h = absurd (omega arith)
some_reader (x ∷ xs) zero h = (x, refl)
some_reader (x ∷ xs) (suc i) h = some_reader xs i (omega arith)

-- what a reader's word announces is a version that there is
announced_bounded : (z : Base) (words : List ℕ) (k : KeeperView) (readers : List Reader) (i : ℕ)
    → IsWhole (core_of z words k readers) → i < z.setting.sessions
    → get_or words (pin_at i) 0 ≤ 2 * newest (story z (entries k.log)) + 2
unfolding pin_word
announced_bounded z words k readers i whole inside =
    let count = whole.readers in
    let there = some_reader readers i (omega arith) in
    let sound = whole.reader i there.0 there.1 in
    let slots = (IsTidy-legal z (entries k.log) whole.ready whole.keeper.legal).slots in
    bounded there.0.announced (get_or words (pin_at i) 0) sound.word sound.announced
    (λ v is. slots.published v (sound.holds v (sound.exact v is)).kept)
  where
    bounded : (announced : Option Seen) (word : ℕ) → word ≡ pin_word announced
        → ((a : ℕ) → announced ≡ Some (From a) → a ≤ newest (story z (entries k.log)))
        → ((v : ℕ) → announced ≡ Some (Exact v) → v ≤ newest (story z (entries k.log)))
        → word ≤ 2 * newest (story z (entries k.log)) + 2
    bounded announced word is first held = search (rules, first, held)

-- the keeper's load of the next reader's word keeps the rule
pub scans_it : (z : Base) (slots id : ℕ) (me : Me Request Role) (k : KeeperView) (t : Task)
    → me.0 ≡ keeping k → k.task ≡ Some t → t.hand.command ≡ Collect
    → t.hand.done < z.setting.sessions
    → Allows (Agrees z) slots id me (pin_at t.hand.done) (λ n. n)
    (scans z (step slots (pin_at t.hand.done) 0 0 none) me)
unfolding steps_before
scans_it z slots id me k t role task collect more s r homes at small =
    let mine = seat_knows z s r id me.0 (keeping k) at role in
    let n = get_or s.words (pin_at t.hand.done) 0 in (
      keeping (scanned r.k t n),
      keeps,
      tt,
      task_moves z s r id _ k (scanned r.k t n).task (search rules) mine.0
          (rw (set_get s.words (pin_at t.hand.done)) (keeps-scan (core_of z s.words r.k r.readers)
          t.hand (search (rules, in_hand)) collect more).whole),
      search (rules, announced_bounded),
    )

-- a reader fits the keeper after a commit, where no commit was unmet before
fits-committed : (z : Base) (k : KeeperView) (readers : List Reader) (t : Task) (x : ReaderView)
    → k.unmet ≡ None → Fits z k readers x → Fits z (committed z k t) readers x
fits-committed z k readers t x no_unmet f = search (rules, made_by-append, prefix-push)

-- the seats agree again after a commit of a reader that is dealt, where no commit was unmet
pub commit_seats : (z : Base) (s : State Request Role) (r : Agrees z s) (id : ℕ) (l : KeeperView)
    (t : Task) → get_elem? s.views id ≡ some (keeping l) → id ≡ r.seats.keeper → t.by < r.k.dealt
    → r.k.unmet ≡ None
    → AreSeats z (committed z r.k t) r.readers (set s.views id (keeping (committed z r.k t)))
commit_seats z s r id l t at here caller met =
    seats_keeper z r.k (committed z r.k t) r.readers r.readers s.views r.seats id
    (keeping (committed z r.k t)) here r.seats.few
    (callers-push r.k.dealt r.k.log (signed_of z r.k t) r.seats.callers caller) r.seats.fresh
    r.seats.left (search (rules, seated_set)) tt (here, refl) (search (rules, fits-committed))
    (λ seen p. prefix-push seen r.k.log (signed_of z r.k t) p)

-- the keeper's store of NOW, which commits the current command, keeps the rule
pub commits_it : (z : Base) (slots id word : ℕ) (me : Me Request Role) (k : KeeperView)
    → me.0 ≡ keeping k → (may : MayCommit z k)
    → word ≡ now_of (story z (entries (committed z k may.task).log))
    → Allows (Agrees z) slots id me now_at (λ _. word)
    (λ _. commits z (step slots now_at word 0 none) me word)
commits_it z slots id word me k role may is s r homes at small =
    let mine = seat_knows z s r id me.0 (keeping k) at role in
    let t = may.task in
    let e = signed_of z r.k t in
    let done : IsWhole (core_of z (set s.words now_at word) (committed z r.k t) r.readers) =
    rw (is, mine.1, entries-push r.k.log e, story-push z (entries r.k.log) e.entry)
    (keeps-commit (core_of z s.words r.k r.readers) t.hand (search (rules, in_hand))
    (rw (← mine.1) may.all_done)).whole in (
      keeping (committed z r.k t),
      keeps,
      tt,
      record {
        k = committed z r.k t;
        readers = r.readers;
        whole = done;
        seats = commit_seats z s r id k t (search rules) mine.0 (search rules) (search rules);
      },
      search rules,
    )
