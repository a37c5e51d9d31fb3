-- A store is closed: its sessions are given up, the last one first, and their entries are counted.
use Rattle.std.proofs.Common.{◌≡◌, ℕ, ◌+◌, List, [], ◌∷◌, ◌++◌, length, ap, subst, sym, ◌∙◌, arith}
use Rattle.std.proofs.Common.{length-append}
use Rattle.std.specs.Prelude.{All, sum_by, slice_index_or, drop}
use Rattle.std.proofs.lemmas.List.Elements.{All-append}
use Rattle.std.proofs.lemmas.List.Sums.{sum_by-append}
use mathlib.Core.List.{IsPrefix}
use Rattle.shelf.specs.declared.store_entry.StoreEntry.{StoreEntry}
use Rattle.shelf.specs.Close.{Closed}
use Rattle.shelf.specs.Roles.{ReaderView, made_by, entries}
use Rattle.session.specs.Sessions.{IsInLog, IsHandedOut}
use Rattle.shelf.specs.Store.{StoreId, readers_of}
use Rattle.shelf.proofs.logs.LogParts.{length-entries}
use Rattle.desk.specs.Desks.{story_told, base_place, kept_part}
use Rattle.events.specs.Legal.{IsLegal}
use Rattle.events.proofs.logs.LogLemmas.{places_are, places-legal}
use Rattle.std.proofs.lemmas.List.{length-drop}

-- these sessions are left, while others were given up
pub record IsCounted (closing : Closed) (left : List ReaderView) (before : Closed)
    (all : List ReaderView) : Type 0 where
  pub log : closing.log ≡ before.log
  pub readers : closing.readers + length left ≡ before.readers + length all
  pub made : closing.made + sum_by (λ s. s.made) left ≡ before.made + sum_by (λ s. s.made) all
  pub all_in : All (IsInLog before.log) left → All (IsInLog before.log) all

-- a session that is in a log is each of a list of itself alone
one_in : (log : List StoreEntry) (x : ReaderView) → IsInLog log x → All (IsInLog log) (x ∷ [])
one_in log x here k d within =
    subst (IsInLog log) (sym (ap (λ (n : ℕ). slice_index_or (x ∷ []) n d) first)) here
  where
    first : k ≡ 0
    first = omega arith

-- once the last session that is left is given up, the ones before it are left, and its entries are
-- counted
pub counted_next : (closing after before : Closed) (left rest all : List ReaderView)
    (x y : ReaderView) → IsCounted closing left before all → left ≡ rest ++ x ∷ [] → y ≡ x
    → after ≡ record closing { readers = closing.readers + 1; made = closing.made + y.made }
    → IsPrefix y.seen closing.log → made_by y.number closing.log ≡ y.made
    → IsCounted after rest before all
counted_next closing after before left rest all x y counted left_is seat_is after_is began own =
    let long = length-append rest (x ∷ []) in
    let sum = sum_by-append (λ (s : ReaderView). s.made) rest (x ∷ []) in
    let made_same = ap (λ (s : ReaderView). s.made) seat_is in
    let readers = counted.readers in
    let made = counted.made in
    let here : IsInLog before.log x = subst (λ (l : List StoreEntry). IsInLog l x) counted.log
    (subst (IsInLog closing.log) seat_is (began, own)) in
    record {
      log = ap (λ (c : Closed). c.log) after_is ∙ counted.log;
      readers = omega (arith, ap (λ (c : Closed). c.readers) after_is, ap length left_is);
      made = omega (
        arith,
        ap (λ (c : Closed). c.made) after_is,
        ap (sum_by (λ (s : ReaderView). s.made)) left_is,
      );
      all_in = λ rest_in. counted.all_in
          (subst (All (IsInLog before.log)) (sym left_is)
          (All-append (IsInLog before.log) rest (x ∷ []) rest_in (one_in before.log x here)));
    }

-- once all sessions that were given to it are given up, what a close returns is the last part of
-- the desk's log
pub handed_out : (z : StoreId) (closing after : Closed) (log kept : List StoreEntry)
    (all : List ReaderView) (base : ℕ) → closing ≡ record { log = log; readers = 0; made = 0 }
    → after ≡ record closing {
      readers = closing.readers + length all;
      made = closing.made + sum_by (λ s. s.made) all;
    } → All (IsInLog closing.log) all
    → IsLegal z.base.setting z.base.opening (entries after.log)
    → (after.readers ≡ readers_of z → after.made ≡ length after.log) → base ≡ base_place z log
    → kept ≡ kept_part z log → IsHandedOut z all base kept
handed_out z closing after log kept all base closing_is after_is all_in legal made base_is kept_is =
    let whole : after.log ≡ log = ap (λ (c : Closed). c.log) after_is
    ∙ ap (λ (c : Closed). c.log) closing_is in
    let lawful : IsLegal z.base.setting z.base.opening (entries log) =
    subst (λ (l : List StoreEntry). IsLegal z.base.setting z.base.opening (entries l)) whole legal
    in
    let readers_are : after.readers ≡ length all =
    omega (
      arith,
      ap (λ (c : Closed). c.readers) after_is,
      ap (λ (c : Closed). c.readers) closing_is,
    ) in
    let made_are : after.made ≡ sum_by (λ s. s.made) all =
    omega (arith, ap (λ (c : Closed). c.made) after_is, ap (λ (c : Closed). c.made) closing_is) in
    let low = (places-legal z.base (entries log) lawful).2 in
    let places : (story_told z log).places ≡ length log = places_are z.base (entries log)
    ∙ length-entries log in
    record {
      log = log;
      legal = lawful;
      sessions = subst (λ (l : List StoreEntry). All (IsInLog l) all)
          (ap (λ (c : Closed). c.log) closing_is) all_in;
      made = λ handed. sym made_are ∙ (made (readers_are ∙ handed) ∙ ap length whole);
      base_is = base_is;
      kept_is = kept_is ∙ ap (λ (n : ℕ). drop n log) (sym base_is);
      last_is = omega (arith, ap length kept_is, length-drop (base_place z log) log);
    }

-- where no session is left to give up, each of them is in the log
pub all_given_up : (closing before : Closed) (left all : List ReaderView)
    → IsCounted closing left before all → length left ≡ 0 → All (IsInLog before.log) all
all_given_up closing before left all counted none =
    counted.all_in (λ k d within. absurd (omega arith))
