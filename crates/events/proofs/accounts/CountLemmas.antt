-- Different numbers, counted; and the positions that have changed.
use Rattle.events.proofs.Names.{rules, ◌≡◌, ◌≢◌, ℕ, zero, suc, ◌+◌, ◌<◌, ◌≤◌, ◌==◌, ◌||◌, Bool}
use Rattle.events.proofs.Names.{true, false, cond, List, [], ◌∷◌, length, refl, ap, arith, sum_by}
use Rattle.events.proofs.Names.{range_with_len, list_any, cases_eq, eq-eqb, ne_eqb, sum_by-cons}
use Rattle.events.proofs.Names.{inl, inr, times}
use Rattle.events.specs.Story.{number_of_values}
use Rattle.events.proofs.accounts.TimesLemmas.{one_if, none_if}

-- a sum of numbers that are each the sum of two is the sum of both sums
pub sum_by-add : (f g h : ℕ → ℕ) (a n : ℕ) → ((k : ℕ) → a ≤ k → k < a + n → h k ≡ f k + g k)
    → sum_by h (range_with_len a n) ≡ sum_by f (range_with_len a n) + sum_by g (range_with_len a n)
sum_by-add f g h a zero each = refl
sum_by-add f g h a (suc n) each =
    let rest = sum_by-add f g h (a + 1) n (λ k low high. each k (omega arith) (omega arith)) in
    let first = each a (omega arith) (omega arith) in
    omega (
      arith,
      sum_by-cons h a (range_with_len (a + 1) n),
      sum_by-cons f a (range_with_len (a + 1) n),
      sum_by-cons g a (range_with_len (a + 1) n),
      rest,
      first,
    )

-- a sum of ones is their number
pub sum_by-ones : (f : ℕ → ℕ) (a n : ℕ) → ((k : ℕ) → f k ≡ 1) → sum_by f (range_with_len a n) ≡ n
sum_by-ones f a zero each = refl
sum_by-ones f a (suc n) each = search (rules, sum_by-ones f (a + 1) n each, sum_by-cons)

-- a position is one of a range
pub sum_by-place : (q a n : ℕ) → a ≤ q → q < a + n
    → sum_by (λ p. cond (q == p) 1 0) (range_with_len a n) ≡ 1
sum_by-place q a zero low high = absurd (omega arith)
sum_by-place q a (suc n) low high =
    elim (cases_eq q a) [
      | inl same ↦
          let here = one_if q a same in
          let rest = sum_by-before q (a + 1) n (omega arith) in
          omega (
            arith,
            sum_by-cons (λ p. cond (q == p) 1 0) a (range_with_len (a + 1) n),
            here,
            rest,
          )
      | inr apart ↦
          let here = none_if q a apart in
          let rest = sum_by-place q (a + 1) n (omega arith) (omega arith) in
          omega (
            arith,
            sum_by-cons (λ p. cond (q == p) 1 0) a (range_with_len (a + 1) n),
            here,
            rest,
          )
    ]
  where
    sum_by-before : (q a n : ℕ) → q < a → sum_by (λ p. cond (q == p) 1 0) (range_with_len a n) ≡ 0
    sum_by-before q a zero low = refl
    sum_by-before q a (suc n) low =
        let here = none_if q a (λ same. absurd (omega arith)) in
        let rest = sum_by-before q (a + 1) n (omega arith) in
        omega (arith, sum_by-cons (λ p. cond (q == p) 1 0) a (range_with_len (a + 1) n), here, rest)

-- ---- different numbers

-- the list loses the first place of a number
abbrev pub without : ℕ → List ℕ → List ℕ
without n [] = []
without n (m ∷ ms) = cond (n == m) ms (m ∷ without n ms)

-- a number that stands at the head counts once more
times-head : (n m : ℕ) (ms : List ℕ) → n ≡ m → times n (m ∷ ms) ≡ suc (times n ms)
times-head n m ms same = let here = one_if n m same in omega arith

-- another number at the head doesn't count
times-tail : (n m : ℕ) (ms : List ℕ) → n ≢ m → times n (m ∷ ms) ≡ times n ms
times-tail n m ms apart = let here = none_if n m apart in omega arith

-- without a number that is there the list is one shorter
length-without : (n : ℕ) (ms : List ℕ) → 1 ≤ times n ms → length ms ≡ suc (length (without n ms))
length-without n [] some = absurd (omega arith)
length-without n (m ∷ ms) some =
    elim (cases_eq n m) [
      | inl same ↦ by_true n m ms (eq-eqb n m same)
      | inr apart ↦
          let rest = length-without n ms (let tail = times-tail n m ms apart in omega arith) in
          by_false n m ms (ne_eqb n m apart) rest
    ]
  where
    by_true : (n m : ℕ) (ms : List ℕ) → (n == m) ≡ true
        → length (m ∷ ms) ≡ suc (length (cond (n == m) ms (m ∷ without n ms)))
    by_true n m ms test = rw test refl

    by_false : (n m : ℕ) (ms : List ℕ) → (n == m) ≡ false → length ms ≡ suc (length (without n ms))
        → length (m ∷ ms) ≡ suc (length (cond (n == m) ms (m ∷ without n ms)))
    by_false n m ms test rest = rw test (ap suc rest)

-- a number that stands in a list at most once isn't there once its first place is left out
times-without : (n : ℕ) (ms : List ℕ) → times n ms ≤ 1 → times n (without n ms) ≡ 0
times-without n [] once = refl
times-without n (m ∷ ms) once =
    search (
      rules,
      times-without n ms (omega arith),
      cases_eq,
      eq-eqb,
      times-head,
      times-tail,
      ne_eqb,
    )

-- each other one stands as often
times-others : (n o : ℕ) (ms : List ℕ) → o ≢ n → times o (without n ms) ≡ times o ms
times-others n o [] apart = refl
times-others n o (m ∷ ms) apart =
    search (rules, times-others n o ms apart, cases_eq, eq-eqb, times-tail, ne_eqb)

-- a number that a list has stands in it once at least
any-times : (n : ℕ) (ms : List ℕ) → list_any (λ m. n == m) ms ≡ true → 1 ≤ times n ms
any-times n [] is = absurd (cc)
any-times n (m ∷ ms) is =
    elim (cases_eq n m) [
      | inl same ↦ let head = times-head n m ms same in omega arith
      | inr apart ↦
          let tail = times-tail n m ms apart in
          let rest = any-times n ms (skipped (n == m) (list_any (λ o. n == o) ms)
          (ne_eqb n m apart) is) in
          omega arith
    ]
  where
    skipped : (a b : Bool) → a ≡ false → (a || b) ≡ true → b ≡ true
    skipped true b off is = absurd (cc)
    skipped false b off is = is

-- a number that a list hasn't stands in it 0 times
none-times : (n : ℕ) (ms : List ℕ) → list_any (λ m. n == m) ms ≡ false → times n ms ≡ 0
none-times n [] is = refl
none-times n (m ∷ ms) is =
    elim (cases_eq n m) [
      | inl same ↦ search (rules, eq-eqb)
      | inr apart ↦
          let tail = times-tail n m ms apart in
          let rest = none-times n ms
          (skipped (n == m) (list_any (λ o. n == o) ms) (ne_eqb n m apart) is) in
          omega arith
    ]
  where
    both : (a b : Bool) → a ≡ true → (a || b) ≡ false → ⊥
    both true b on is = cc
    both false b on is = cc

    skipped : (a b : Bool) → a ≡ false → (a || b) ≡ false → b ≡ false
    skipped a b off is = search rules

-- a list has as many different numbers as another one is long that has the same numbers, and none
-- twice
pub values_counted : (xs ys : List ℕ) → ((n : ℕ) → 1 ≤ times n xs → 1 ≤ times n ys)
    → ((n : ℕ) → 1 ≤ times n ys → 1 ≤ times n xs) → ((n : ℕ) → times n ys ≤ 1)
    → number_of_values xs ≡ length ys
values_counted [] [] to back once = refl
values_counted [] (y ∷ ys) to back once =
    absurd (let here = back y (let head = times-head y y ys refl in omega arith) in omega arith)
values_counted (x ∷ xs) ys to back once =
    elim (list_any (λ m. x == m) xs) as
    (λ b. list_any (λ m. x == m) xs ≡ b → cond b 0 1 + number_of_values xs ≡ length ys) [
      | true ↦ λ again.
          let there = any-times x xs again in
          let rest = values_counted xs ys (λ n some. to n (omega arith))
          (λ n some.
          let either_way = back n some in
          elim (cases_eq n x) [
            | inl same ↦ let is = ap (λ (o : ℕ). times o xs) same in omega arith
            | inr apart ↦ let tail = times-tail n x xs apart in omega arith
          ])
          once in
          omega arith
      | false ↦ λ new.
          let none = none-times x xs new in
          let some = to x (let head = times-head x x xs refl in omega arith) in
          let gone = times-without x ys (once x) in
          let shorter = length-without x ys some in
          let rest = values_counted xs (without x ys)
          (λ n there.
          elim (cases_eq n x) [
            | inl same ↦ absurd (let is = ap (λ (o : ℕ). times o xs) same in omega arith)
            | inr apart ↦ search (rules, times-tail, times-others)
          ])
          (λ n there.
          elim (cases_eq n x) [
            | inl same ↦ search rules
            | inr apart ↦ search (rules, times-others, times-tail)
          ])
          (λ n.
          elim (cases_eq n x) [
            | inl same ↦ let is = ap (λ (o : ℕ). times o (without x ys)) same in omega arith
            | inr apart ↦ let other = times-others x n ys apart in let few = once n in omega arith
          ]) in
          omega arith
    ] refl
