-- How many cells become another when one cell is written.
use Rattle.std.proofs.Common.{◌≡◌, ◌≢◌, ℕ, zero, suc, ◌+◌, ◌*◌, ◌<◌, ◌≤◌, Bool, true, false, cond}
use Rattle.std.proofs.Common.{refl, ap, sym, ◌∙◌, arith}
use Rattle.std.specs.List.{range_with_len, sum_by}
use Rattle.std.proofs.lemmas.List.Sums.{sum_by-cons, count_by-le-length}
use Rattle.std.proofs.lemmas.List.FromFn.{length-range_with_len}
use Rattle.std.proofs.lemmas.Bool.{cases_eq}
use mathlib.Core.Logic.{inl, inr}
use Rattle.bits.specs.Cells.{Cells, has, with_cell}
use Rattle.bits.specs.Changes.{changes, changes_in_row, differs}
use Rattle.bits.proofs.CellsLemmas.{has-with_cell_same, has-with_cell_other}

-- two sums of equal terms are equal
pub sum_by-same : (f g : ℕ → ℕ) (a n : ℕ) → ((j : ℕ) → a ≤ j → j < a + n → f j ≡ g j)
    → sum_by f (range_with_len a n) ≡ sum_by g (range_with_len a n)
sum_by-same f g a zero same = refl
sum_by-same f g a (suc n) same =
    let first : f a ≡ g a = same a (omega arith) (omega arith) in
    let rest : sum_by f (range_with_len (a + 1) n) ≡ sum_by g (range_with_len (a + 1) n) =
    sum_by-same f g (a + 1) n (λ j low high. same j (omega arith) (omega arith)) in
    sum_by-cons f a (range_with_len (a + 1) n)
    ∙ (ap (λ (t : ℕ). t + sum_by f (range_with_len (a + 1) n)) first ∙ ap (λ (t : ℕ). g a + t) rest)
    ∙ sym (sum_by-cons g a (range_with_len (a + 1) n))

-- a sum of zeros is zero
pub sum_by-zero : (f : ℕ → ℕ) (a n : ℕ) → ((j : ℕ) → a ≤ j → j < a + n → f j ≡ 0)
    → sum_by f (range_with_len a n) ≡ 0
sum_by-zero f a zero none = refl
sum_by-zero f a (suc n) none =
    let rest = sum_by-zero f (a + 1) n (λ j low high. none j (omega arith) (omega arith)) in
    omega (
      arith,
      sum_by-cons f a (range_with_len (a + 1) n),
      none a (omega arith) (omega arith),
      rest,
    )

-- two sums whose terms differ at one place alone differ by those two terms
pub sum_but_one : (f g : ℕ → ℕ) (a n k : ℕ) → a ≤ k → k < a + n
    → ((j : ℕ) → a ≤ j → j < a + n → j ≢ k → f j ≡ g j)
    → sum_by f (range_with_len a n) + g k ≡ sum_by g (range_with_len a n) + f k
sum_but_one f g a zero k low high same = absurd (omega arith)
sum_but_one f g a (suc n) k low high same =
    let f_parts = sum_by-cons f a (range_with_len (a + 1) n) in
    let g_parts = sum_by-cons g a (range_with_len (a + 1) n) in
    elim (cases_eq a k) [
      | inl here ↦
          let rest = sum_by-same f g (a + 1) n
          (λ j lo hi. same j (omega arith) (omega arith) (omega arith)) in
          let f_here = ap f here in
          let g_here = ap g here in
          omega (arith, f_parts, g_parts, rest, f_here, g_here)
      | inr later ↦
          let first = same a (omega arith) (omega arith) later in
          let rest = sum_but_one f g (a + 1) n k (omega arith) (omega arith)
          (λ j lo hi ne. same j (omega arith) (omega arith) ne) in
          omega (arith, f_parts, g_parts, first, rest)
    ]

-- 1 for a cell that is another, 0 for one that is as it was
abbrev pub one : Bool → ℕ
one test = cond test 1 0

-- a value differs from itself nowhere
pub differs-self : (b : Bool) → differs b b ≡ false
differs-self true = refl
differs-self false = refl

-- two values that are not equal differ
differs-other : (a b : Bool) → a ≢ b → differs a b ≡ true
differs-other true true apart = absurd (apart refl)
differs-other true false apart = refl
differs-other false true apart = refl
differs-other false false apart = absurd (apart refl)

-- nothing changes from a bitmap to itself
pub changes-self : (cells : Cells) → changes cells cells ≡ 0
unfolding changes
changes-self cells = grind (arith, sum_by-zero, differs-self)

-- a sum of this many terms, each with a bound
sum_by-le_range : (f : ℕ → ℕ) (most a n : ℕ) → ((j : ℕ) → f j ≤ most)
    → sum_by f (range_with_len a n) ≤ n * most
sum_by-le_range f most a zero few = omega arith
sum_by-le_range f most a (suc n) few =
    grind (arith, sum_by-cons, sum_by-le_range f most (a + 1) n few)

-- a row has at most as many changes as columns
changes_in_row-le : (old now : Cells) (y : ℕ) → changes_in_row old now y ≤ old.width
changes_in_row-le old now y = grind (arith, count_by-le-length, length-range_with_len)

-- the number of changes is at most the number of cells
pub changes-le : (old now : Cells) → changes old now ≤ old.height * old.width
unfolding changes
changes-le old now = grind (arith, sum_by-le_range, changes_in_row-le)

-- after one cell is written: the changes and what that cell counted before are the changes before
-- and what it counts now
changes-with_cell : (old now : Cells) (x y : ℕ) (black : Bool) → now.width ≡ old.width
    → now.height ≡ old.height
    → x < old.width → y < old.height
    → changes old (with_cell now x y black) + one (differs (has old x y) (has now x y))
    ≡ changes old now + one (differs (has old x y) black)
unfolding changes
changes-with_cell old now x y black width_same height_same hx hy =
    let new : Cells = with_cell now x y black in
    let there = λ (a b : ℕ) (ha : a < old.width) (hb : b < old.height) (apart : a ≡ x → b ≢ y).
    has-with_cell_other now x y black a b (omega arith) (omega arith) apart in
    let here : has new x y ≡ black = has-with_cell_same now x y black (omega arith) (omega arith) in
    let row_parts = sum_but_one (λ a. one (differs (has old a y) (has new a y)))
    (λ a. one (differs (has old a y) (has now a y))) 0 old.width x (omega arith) (omega arith)
    (λ a low ha apart. ap (λ (now_there : Bool). one (differs (has old a y) now_there))
    (there a y (omega arith) hy (λ same. absurd (apart same)))) in
    let row : changes_in_row old new y + one (differs (has old x y) (has now x y))
    ≡ changes_in_row old now y + one (differs (has old x y) black) =
    row_parts
    ∙ ap (λ (now_here : Bool). changes_in_row old now y + one (differs (has old x y) now_here))
    here in
    let rows = sum_but_one (changes_in_row old new) (changes_in_row old now) 0 old.height y
    (omega arith) (omega arith)
    (λ b low hb apart. sum_by-same (λ a. one (differs (has old a b) (has new a b)))
    (λ a. one (differs (has old a b) (has now a b))) 0 old.width
    (λ a lo ha. ap (λ (now_there : Bool). one (differs (has old a b) now_there))
    (there a b (omega arith) (omega arith) (λ same. apart)))) in
    omega (arith, row, rows)

-- a cell that had its first value, and gets another, is one more change
pub changes-with_cell_more : (old now : Cells) (x y : ℕ) (black : Bool) → now.width ≡ old.width
    → now.height ≡ old.height → x < old.width → y < old.height
    → has now x y ≡ has old x y → has now x y ≢ black
    → changes old (with_cell now x y black) ≡ changes old now + 1
changes-with_cell_more old now x y black width_same height_same hx hy same other =
    grind (arith, changes-with_cell, differs-self, differs-other)
