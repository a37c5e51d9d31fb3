-- The rule holds of a table at its opening, and stays as readers are dealt.
use Rattle.shelf.proofs.Names.{rules, ◌≡◌, ℕ, zero, suc, ◌+◌, ◌<◌, List, [], ◌∷◌, length, set, refl}
use Rattle.shelf.proofs.Names.{ap, sym, arith, ◌++◌, slice_get, Some, some, some-injective}
use Rattle.shelf.proofs.Names.{some-ne-none, get_elem?, State, Splits, Base, Reader}
use Rattle.shelf.proofs.Names.{AreOpeningWords, IsReady, Request, as_keeper, Role, keeping, reading}
use Rattle.shelf.proofs.Names.{resting, Knows, HasReader, IsSeated, AreSeats, Agrees}
use Rattle.shelf.specs.Roles.{reader_at_opening}
use Rattle.shelf.proofs.seats.HandedSeats.{one_new}
use Rattle.std.specs.Prelude.{replicate}
use Rattle.atomic_table.specs.Table.{opening}
use Rattle.events.proofs.steps.OpenWorld.{IsWhole-opening}
use Rattle.shelf.proofs.seats.Moved.{moved, moved-each, moved-here, moved-else}
use Rattle.shelf.proofs.seats.Bridge.{seated_set, seated_longer, seated_last}
use Rattle.events.specs.Runs as core

-- a list of one reader again and again has it at each place
get_replicate : (n i : ℕ) (x : Reader) → i < n → slice_get (replicate n x) i ≡ Some x
get_replicate zero i x h = absurd (omega arith)
get_replicate (suc n) zero x h = refl
get_replicate (suc n) (suc i) x h = get_replicate n i x (omega arith)

-- the only seat at an opening is the idle keeper's
at_first : (j : ℕ) (v : Role) → get_elem? (keeping (resting 0 []) ∷ []) j ≡ some v
    → (j ≡ 0) × (v ≡ keeping (resting 0 []))
at_first zero v e = (refl, sym (some-injective _ v e))
at_first (suc j) v e = absurd (some-ne-none v (sym e))

-- the rule holds of a table at its opening
pub rule_at_first : (z : Base) (words : List ℕ) → IsReady z → AreOpeningWords z words
    → Agrees z (opening words [] (keeping (resting 0 [])))
rule_at_first z words ready opening = record {
  k = resting 0 [];
  readers = replicate z.setting.sessions core.fresh_reader;
  whole = IsWhole-opening z words ready opening;
  seats = record {
    keeper = 0;
    owner = λ n. 0;
    few = omega arith;
    callers = search rules;
    fresh = search (rules, get_replicate);
    left = λ r y gone is. absurd (omega arith);
    seated = λ q below none. absurd (omega arith);
    kept = record { role = keeping (resting 0 []); at = refl; is = tt };
    each_seat = search (rules, at_first);
  };
}

-- what another seat than the keeper's knows stays so once reader n is dealt
stays_dealt : (z : Base) (n : ℕ) (readers : List Reader) (keeper : ℕ) (owner : ℕ → ℕ) (to j : ℕ)
    (v : Role) → (j ≡ keeper → ⊥) → Knows z (resting n []) readers keeper owner j v
    → Knows z (resting (n + 1) []) readers keeper (moved owner n to) j v
stays_dealt z n readers keeper owner to j v else knows = search (rules, moved-else)

-- the seats agree again once the next reader is dealt
pub dealt_seats : (z : Base) (s : State Request Role) (r : Agrees z s) (id n : ℕ)
    → n < z.setting.sessions → get_elem? s.views id ≡ some (keeping (resting n []))
    → AreSeats z (resting (n + 1) []) r.readers
    (set s.views id (keeping (resting (n + 1) [])) ++ reading (reader_at_opening n) ∷ [])
dealt_seats z s r id n below at =
    let mine = r.seats.each_seat id (keeping (resting n [])) at in
    let new = length (set s.views id (keeping (resting (n + 1) []))) in
    let seats : AreSeats z (resting n []) r.readers s.views = rw mine.1 r.seats in
    record {
      keeper = seats.keeper;
      owner = moved seats.owner n new;
      few = omega arith;
      callers = search rules;
      fresh = λ q above inside. seats.fresh q (omega arith) inside;
      left = λ q y gone is. absurd (omega arith);
      seated = λ q inside none. moved-each seats.owner n new q (IsSeated (HasReader q) _)
          (λ here. seated_last _ (reading (reader_at_opening n)) (HasReader q) (sym here))
          (λ apart. let had = seats.seated q (omega arith) refl in
          search (rules, seated_longer, seated_set));
      kept = search (rules, seated_longer, seated_set);
      each_seat = one_new (Knows z (resting (n + 1) []) r.readers seats.keeper _) s.views id
          (keeping (resting (n + 1) [])) (reading (reader_at_opening n)) (mine.0, refl)
          (moved-here seats.owner n new, search rules) (search (rules, stays_dealt));
    }

-- dealing the next reader keeps the rule
pub deals : (z : Base) (id n : ℕ) → n < z.setting.sessions
    → Splits (Agrees z) id (keeping (resting n [])) (keeping (resting (n + 1) []))
    (reading (reader_at_opening n))
deals z id n below s r at =
    let mine = r.seats.each_seat id (keeping (resting n [])) at in
    record {
      k = resting (n + 1) [];
      readers = r.readers;
      whole = rw (ap as_keeper mine.1) r.whole;
      seats = dealt_seats z s r id n below at;
    }
