-- A rectangle whose cells are given values, cell by cell and row by row.
use Rattle.std.proofs.Common.{◌≡◌, ◌≢◌, ℕ, ◌+◌, ◌^◌, ◌<◌, ◌≤◌, ◌==◌, ◌&&◌, ◌||◌, Bool, true, false}
use Rattle.std.proofs.Common.{not, if◌then◌else◌, refl, ap, subst, sym, ◌∙◌, arith}
use Rattle.std.proofs.lemmas.Bool.Decides.{nat_tests}
use mathlib.Core.Bool.{beq}
use Rattle.std.proofs.lemmas.Nat.{mul-le}
use Rattle.bits.specs.Cells.{Cells, has, cells_where, with_cell, is_within, IsBitmap}
use Rattle.bits.specs.Changes.{changes}
use Rattle.bits.proofs.CellsLemmas.{has-cells_where, cells_where-same, cells_where-has}
use Rattle.bits.proofs.CellsLemmas.{with_cell-same, IsBitmap-cells_where}
use Rattle.bits.proofs.ChangesLemmas.{changes-self, changes-le, changes-with_cell_more}

-- whether the cell (a, b) is filled once the rows above y are, and of row y the columns before x
abbrev pub is_filled : ℕ → ℕ → ℕ → ℕ → ℕ → ℕ → ℕ → Bool
is_filled x0 y0 x1 y x a b = is_within x0 y0 x1 y a b || is_within x0 y x (y + 1) a b

-- the value of the cell (a, b) by then
abbrev pub filled_cell : Cells → ℕ → ℕ → ℕ → ℕ → ℕ → (ℕ → ℕ → Bool) → ℕ → ℕ → Bool
filled_cell old x0 y0 x1 y x value a b =
    if is_filled x0 y0 x1 y x a b then value a b else has old a b

-- the bitmap by then
abbrev pub filled : Cells → ℕ → ℕ → ℕ → ℕ → ℕ → (ℕ → ℕ → Bool) → Cells
filled old x0 y0 x1 y x value =
    cells_where old.width old.height (filled_cell old x0 y0 x1 y x value)

-- where the test that two values are unequal is true, they differ
pub other_value : (a b : Bool) → not (beq a b) ≡ true → a ≢ b
other_value true true h = λ e. cc
other_value true false h = λ e. cc
other_value false true h = λ e. cc
other_value false false h = λ e. cc

-- where the test that two values are unequal is false, they are equal
pub same_value : (a b : Bool) → not (beq a b) ≡ false → a ≡ b
same_value true true h = refl
same_value true false h = cc
same_value false true h = cc
same_value false false h = refl

-- before the first row nothing is filled
none_filled : (x0 y0 x1 a b : ℕ) (value other : Bool)
    → (if is_filled x0 y0 x1 y0 x0 a b then value else other) ≡ other
none_filled x0 y0 x1 a b value other = grind (arith, nat_tests)

-- the next cell is not filled yet
not_yet : (x0 y0 x1 y x : ℕ) (value other : Bool)
    → (if is_filled x0 y0 x1 y x x y then value else other) ≡ other
not_yet x0 y0 x1 y x value other = grind (arith, nat_tests)

-- a further cell is filled
one_more : (x0 y0 x1 y x a b : ℕ) (here value other : Bool) → x0 ≤ x
    → (a ≡ x → b ≡ y → here ≡ value)
    → (if a == x && b == y then here else (if is_filled x0 y0 x1 y x a b then value else other))
    ≡ (if is_filled x0 y0 x1 y (x + 1) a b then value else other)
one_more x0 y0 x1 y x a b here value other hx same = grind (arith, nat_tests)

-- a row that is filled to its end is one more row
row_more : (x0 y0 x1 y x a b : ℕ) (value other : Bool) → y0 ≤ y → x ≡ x1
    → (if is_filled x0 y0 x1 y x a b then value else other)
    ≡ (if is_filled x0 y0 x1 (y + 1) x0 a b then value else other)
row_more x0 y0 x1 y x a b value other hy end = grind (arith, nat_tests)

-- after the last row a cell is filled exactly where the rectangle has it
all_filled : (x0 y0 x1 y1 y x a b : ℕ) (value other : Bool) → y ≡ y1 → x ≡ x0
    → (if is_filled x0 y0 x1 y x a b then value else other)
    ≡ (if is_within x0 y0 x1 y1 a b then value else other)
all_filled x0 y0 x1 y1 y x a b value other end begin = grind (arith, nat_tests)

-- how far the filling of a rectangle has come, and what it has counted
pub record IsFilling (old now : Cells) (x0 y0 x1 y x : ℕ) (value : ℕ → ℕ → Bool) (changed : ℕ) :
    Type 0 where
  pub bitmap : IsBitmap old
  pub width_same : now.width ≡ old.width
  pub height_same : now.height ≡ old.height
  pub is : now ≡ filled old x0 y0 x1 y x value
  pub count : changed ≡ changes old now

-- nothing is filled at first
pub filling_none : (old : Cells) → IsBitmap old → (x0 y0 x1 : ℕ) (value : ℕ → ℕ → Bool)
    → IsFilling old old x0 y0 x1 y0 x0 value 0
filling_none old bitmap x0 y0 x1 value = record {
  bitmap = bitmap;
  width_same = refl;
  height_same = refl;
  is = cells_where-has old bitmap
      ∙ cells_where-same old.width old.height (has old) (filled_cell old x0 y0 x1 y0 x0 value)
      (λ a b ha hb. sym (none_filled x0 y0 x1 a b (value a b) (has old a b)));
  count = sym (changes-self old);
}

module _ (old now : Cells) (x0 y0 x1 y x : ℕ) (value : ℕ → ℕ → Bool) (changed : ℕ)
    (so_far : IsFilling old now x0 y0 x1 y x value changed) where
  -- what is being filled is a bitmap
  pub filling_bitmap : IsBitmap now
  filling_bitmap =
      subst IsBitmap (sym so_far.is)
      (IsBitmap-cells_where old.width old.height (filled_cell old x0 y0 x1 y x value)
      so_far.bitmap.width_is so_far.bitmap.height_is)

  -- with the next cell written, one more cell is filled
  written : (new : Cells) (black : Bool) → x0 ≤ x → black ≡ value x y
      → new ≡ with_cell now x y black → new ≡ filled old x0 y0 x1 y (x + 1) value
  written new black hx read is =
      is
      ∙ (ap (λ (cells : Cells). with_cell cells x y black) so_far.is
      ∙ cells_where-same old.width old.height _ (filled_cell old x0 y0 x1 y (x + 1) value)
      (λ a b ha hb.
      ap (λ (other : Bool). if a == x && b == y then black else other)
      (has-cells_where old.width old.height (filled_cell old x0 y0 x1 y x value) a b ha hb)
      ∙ one_more x0 y0 x1 y x a b black (value a b) (has old a b) hx
      (λ column row. read ∙ (λ i. value (sym column i) (sym row i)))))

  -- the next cell has the value already
  pub filling_kept : x0 ≤ x → has now x y ≡ value x y
      → IsFilling old now x0 y0 x1 y (x + 1) value changed
  filling_kept hx same = record {
    bitmap = so_far.bitmap;
    width_same = so_far.width_same;
    height_same = so_far.height_same;
    is = written now (value x y) hx refl (sym (with_cell-same now filling_bitmap x y _ same));
    count = so_far.count;
  }

  -- the next cell is written, with a value that was read
  pub filling_set : (new : Cells) (black : Bool) → x0 ≤ x → x < old.width → y < old.height
      → black ≡ value x y → has now x y ≢ black → new ≡ with_cell now x y black
      → IsFilling old new x0 y0 x1 y (x + 1) value (changed + 1)
  filling_set new black hx width height read other is =
      let as_old : has now x y ≡ has old x y =
      ap (λ (cells : Cells). has cells x y) so_far.is
      ∙ (has-cells_where old.width old.height (filled_cell old x0 y0 x1 y x value) x y width height
      ∙ not_yet x0 y0 x1 y x (value x y) (has old x y)) in
      record {
        bitmap = so_far.bitmap;
        width_same = ap (λ (cells : Cells). cells.width) is ∙ so_far.width_same;
        height_same = ap (λ (cells : Cells). cells.height) is ∙ so_far.height_same;
        is = written new black hx read is;
        count = ap (λ (n : ℕ). n + 1) so_far.count
            ∙ (sym (changes-with_cell_more old now x y black so_far.width_same so_far.height_same
            width height as_old other) ∙ ap (changes old) (sym is));
      }

  -- at the end of a row the next one begins
  pub filling_row : y0 ≤ y → x ≡ x1 → IsFilling old now x0 y0 x1 (y + 1) x0 value changed
  filling_row hy end = record {
    bitmap = so_far.bitmap;
    width_same = so_far.width_same;
    height_same = so_far.height_same;
    is = so_far.is
        ∙ cells_where-same old.width old.height (filled_cell old x0 y0 x1 y x value)
        (filled_cell old x0 y0 x1 (y + 1) x0 value)
        (λ a b ha hb. row_more x0 y0 x1 y x a b (value a b) (has old a b) hy end);
    count = so_far.count;
  }

  -- after the last row the rectangle is filled
  pub filling_all : (y1 : ℕ) → y ≡ y1 → x ≡ x0
      → now ≡ cells_where old.width old.height
      (λ a b. if is_within x0 y0 x1 y1 a b then value a b else has old a b)
  filling_all y1 end begin =
      so_far.is
      ∙ cells_where-same old.width old.height (filled_cell old x0 y0 x1 y x value) _
      (λ a b ha hb. all_filled x0 y0 x1 y1 y x a b (value a b) (has old a b) end begin)

  -- a count fits 32 bits, and one more does
  pub filling_fits : changed + 1 < 2 ^ 32
  filling_fits = grind (arith, changes-le, mul-le, nat_tests)

-- what each step of a filling leaves
pub ruleset filling = (filling_row, filling_bitmap, filling_fits)
