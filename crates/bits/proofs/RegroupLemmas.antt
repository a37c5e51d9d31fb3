-- A count over the cells of a bitmap is the sum of the counts over its tiles.
use Rattle.std.proofs.Common.{◌≡◌, ℕ, zero, suc, ◌+◌, ◌-◌, ◌*◌, ◌/◌, ◌%◌, ◌<◌, ◌≤◌, Bool, true}
use Rattle.std.proofs.Common.{false, refl, ap, sym, ◌∙◌, arith}
use Rattle.std.specs.List.{range_with_len, sum_by}
use Rattle.std.proofs.lemmas.List.Sums.{sum_by-cons}
use Rattle.std.proofs.lemmas.Nat.{div-mul-add, mod-mul-add}
use Rattle.std.proofs.Math.Nat.{mul_comm}
use Rattle.bits.specs.Cells.{Cells, has, IsBitmap}
use Rattle.bits.specs.Changes.{differs, changes}
use Rattle.bits.specs.Words.{words_across}
use Rattle.bits.specs.Tiles.{tiles_down}
use Rattle.bits.specs.TileWords.{tile_changes, changes_by_tile}
use Rattle.bits.proofs.CellsLemmas.{has-outside}
use Rattle.bits.proofs.ChangesLemmas.{sum_by-same, sum_by-zero, one}

-- the sum of the first values of a function
abbrev pub total : (ℕ → ℕ) → ℕ → ℕ
total f n = sum_by f (range_with_len 0 n)

-- a sum over a range is the sum of those over its two parts
split_range : (f : ℕ → ℕ) (a n m : ℕ)
    → sum_by f (range_with_len a (n + m)) ≡ sum_by f (range_with_len a n)
    + sum_by f (range_with_len (a + n) m)
split_range f a zero m = grind arith
split_range f a (suc n) m =
    let longer : suc n + m ≡ suc (n + m) = omega arith in
    let start : a + 1 + n ≡ a + suc n = omega arith in
    let rest = split_range f (a + 1) n m in
    let whole = ap (λ (k : ℕ). sum_by f (range_with_len a k)) longer in
    let tail = ap (λ (k : ℕ). sum_by f (range_with_len k m)) start in
    omega (
      arith,
      whole,
      tail,
      rest,
      sum_by-cons f a (range_with_len (a + 1) (n + m)),
      sum_by-cons f a (range_with_len (a + 1) n),
    )

-- a range that begins later
moved_range : (f : ℕ → ℕ) (s a n : ℕ)
    → sum_by f (range_with_len (s + a) n) ≡ sum_by (λ j. f (s + j)) (range_with_len a n)
moved_range f s a zero = refl
moved_range f s a (suc n) =
    let start : s + a + 1 ≡ s + (a + 1) = omega arith in
    let tail = ap (λ (k : ℕ). sum_by f (range_with_len k n)) start in
    omega (
      arith,
      tail,
      moved_range f s (a + 1) n,
      sum_by-cons f (s + a) (range_with_len (s + a + 1) n),
      sum_by-cons (λ j. f (s + j)) a (range_with_len (a + 1) n),
    )

-- a further number adds its value to a total
pub total-suc : (f : ℕ → ℕ) (n : ℕ) → total f (suc n) ≡ total f n + f n
total-suc f n = grind (arith, split_range, sum_by-cons)

-- past a bound all values are 0
total_wider : (f : ℕ → ℕ) (n m : ℕ) → n ≤ m → ((j : ℕ) → n ≤ j → f j ≡ 0) → total f n ≡ total f m
total_wider f n m up none =
    let parts : n + (m - n) ≡ m = omega arith in
    let whole = ap (total f) parts in
    omega (
      arith,
      whole,
      split_range f 0 n (m - n),
      sum_by-zero f (0 + n) (m - n) (λ j low high. none j (omega arith)),
    )

-- a total over blocks of the same size is the total of the blocks
total_blocks : (f : ℕ → ℕ) (size n : ℕ)
    → total f (size * n) ≡ total (λ a. total (λ j. f (size * a + j)) size) n
total_blocks f size zero = ap (total f) (let none : size * 0 ≡ 0 = omega arith in none)
total_blocks f size (suc n) =
    let longer : size * suc n ≡ size * n + size = omega arith in
    let whole = ap (total f) longer in
    let start : 0 + size * n ≡ size * n + 0 = omega arith in
    let last = ap (λ (k : ℕ). sum_by f (range_with_len k size)) start
    ∙ moved_range f (size * n) 0 size in
    omega (
      arith,
      whole,
      split_range f 0 (size * n) size,
      last,
      total_blocks f size n,
      total-suc (λ a. total (λ j. f (size * a + j)) size) n,
    )

-- a total of sums is the sum of the totals
total_both : (f g : ℕ → ℕ) (n : ℕ) → total (λ a. f a + g a) n ≡ total f n + total g n
total_both f g zero = refl
total_both f g (suc n) =
    omega (arith, total-suc (λ a. f a + g a) n, total-suc f n, total-suc g n, total_both f g n)

-- a total of totals is the same taken by rows first or by columns first
total_turned : (f : ℕ → ℕ → ℕ) (n m : ℕ)
    → total (λ a. total (f a) m) n ≡ total (λ b. total (λ a. f a b) n) m
total_turned f zero m = sym (sum_by-zero (λ b. 0) 0 m (λ j low high. refl))
total_turned f (suc n) m =
    total-suc (λ a. total (f a) m) n
    ∙ (ap (λ (s : ℕ). s + total (f n) m) (total_turned f n m)
    ∙ (sym (total_both (λ b. total (λ a. f a b) n) (f n) m)
    ∙ sum_by-same (λ b. total (λ a. f a b) n + f n b) (λ b. total (λ a. f a b) (suc n)) 0 m
    (λ b low high. sym (total-suc (λ a. f a b) n))))

-- sums of equal terms
total_same : (f g : ℕ → ℕ) (n : ℕ) → ((j : ℕ) → j < n → f j ≡ g j) → total f n ≡ total g n
total_same f g n same = sum_by-same f g 0 n (λ j low high. same j (omega arith))

-- 1 where a cell differs
abbrev pub cell_changes : Cells → Cells → ℕ → ℕ → ℕ
cell_changes old new x y = one (differs (has old x y) (has new x y))

-- two cells outside do not differ
no_change : (a b : Bool) → a ≡ false → b ≡ false → one (differs a b) ≡ 0
no_change a b ha hb = (λ i. one (differs (ha i) (hb i)))

module _ (old new : Cells) (old_is : IsBitmap old) (new_is : IsBitmap new)
    (width_same : new.width ≡ old.width) (height_same : new.height ≡ old.height) where
  out : (cells : Cells) → IsBitmap cells → (x y : ℕ) → (x < cells.width → cells.height ≤ y)
      → has cells x y ≡ false
  out cells is x y outside =
      elim (has cells x y) as (λ test. has cells x y ≡ test → test ≡ false) [
        | true ↦ λ e. let inside = has-outside cells is x y e in
            absurd (let no = outside inside.column in omega arith)
        | false ↦ λ e. refl
      ] refl

  right : (x y : ℕ) → old.width ≤ x → cell_changes old new x y ≡ 0
  right x y past = no_change _ _ (out old old_is x y (λ h. absurd (omega arith)))
      (out new new_is x y (λ h. absurd (omega arith)))

  below : (x y : ℕ) → old.height ≤ y → cell_changes old new x y ≡ 0
  below x y past = no_change _ _ (out old old_is x y (λ h. past))
      (out new new_is x y (λ h. omega arith))

  across : ℕ
  across = words_across old.width

  down : ℕ
  down = tiles_down old.height

  -- the changes, with the columns and rows that only fill up tiles
  pub changes_padded : changes old new ≡ total
      (λ y. total (λ x. cell_changes old new x y) (64 * words_across old.width))
      (64 * tiles_down old.height)
  unfolding changes
  changes_padded =
      total_same (λ y. total (λ x. cell_changes old new x y) old.width)
      (λ y. total (λ x. cell_changes old new x y) (64 * words_across old.width)) old.height
      (λ y h. total_wider (λ x. cell_changes old new x y) old.width (64 * words_across old.width)
      (omega arith) (λ x past. right x y past))
      ∙ total_wider (λ y. total (λ x. cell_changes old new x y) (64 * words_across old.width))
      old.height (64 * tiles_down old.height) (omega arith)
      (λ y past. sum_by-zero (λ x. cell_changes old new x y) 0 (64 * words_across old.width)
      (λ x low high. below x y past))

  -- the changes in the tile of column a and row b of tiles
  there : ℕ → ℕ → ℕ
  there a b = total (λ i. total (λ j. cell_changes old new (64 * a + j) (64 * b + i)) 64) 64

  -- one row of tiles
  row_of_tiles : (b : ℕ)
      → total (λ i. total (λ x. cell_changes old new x (64 * b + i)) (64 * words_across old.width))
      64
      ≡ total (λ a. total (λ i. total (λ j. cell_changes old new (64 * a + j) (64 * b + i)) 64) 64)
      (words_across old.width)
  row_of_tiles b =
      total_same (λ i. total (λ x. cell_changes old new x (64 * b + i))
      (64 * words_across old.width))
      (λ i. total (λ a. total (λ j. cell_changes old new (64 * a + j) (64 * b + i)) 64)
      (words_across old.width)) 64
      (λ i h. total_blocks (λ x. cell_changes old new x (64 * b + i)) 64 (words_across old.width))
      ∙ total_turned (λ i a. total (λ j. cell_changes old new (64 * a + j) (64 * b + i)) 64) 64
      (words_across old.width)

  -- the changes of a tile by its place
  tile_there : (a b : ℕ) → a < words_across old.width
      → tile_changes old new (words_across old.width * b + a)
      ≡ total (λ i. total (λ j. cell_changes old new (64 * a + j) (64 * b + i)) 64) 64
  unfolding tile_changes
  tile_there a b h =
      let order : words_across old.width * b + a ≡ b * words_across old.width + a =
      ap (λ (n : ℕ). n + a) (mul_comm (words_across old.width) b) in
      let column : (words_across old.width * b + a) % words_across old.width ≡ a =
      ap (λ (n : ℕ). n % words_across old.width) order
      ∙ mod-mul-add b (words_across old.width) a h in
      let row : (words_across old.width * b + a) / words_across old.width ≡ b =
      ap (λ (n : ℕ). n / words_across old.width) order
      ∙ div-mul-add b (words_across old.width) a h in
      ap (λ (w : ℕ). total (λ i. total (λ j.
      one (differs (has old (64 * ((words_across old.width * b + a) % words_across old.width) + j)
      (64 * ((words_across old.width * b + a) / words_across old.width) + i))
      (has new (64 * ((words_across old.width * b + a) % words_across w) + j)
      (64 * ((words_across old.width * b + a) / words_across w) + i)))) 64) 64) width_same
      ∙ (λ i'. total (λ i. total (λ j. cell_changes old new (64 * column i' + j) (64 * row i' + i))
      64) 64)

  -- the changes of two bitmaps of the same size, tile by tile
  pub changes_regrouped : changes old new ≡ changes_by_tile old new
  unfolding changes_by_tile
  changes_regrouped =
      changes_padded
      ∙ (total_blocks (λ y. total (λ x. cell_changes old new x y) (64 * words_across old.width)) 64
      (tiles_down old.height)
      ∙ (total_same _
      (λ b. total
      (λ a. total (λ i. total (λ j. cell_changes old new (64 * a + j) (64 * b + i)) 64) 64)
      (words_across old.width)) (tiles_down old.height) (λ b h. row_of_tiles b)
      ∙ (total_same _ (λ b. total (λ a. tile_changes old new (words_across old.width * b + a))
      (words_across old.width)) (tiles_down old.height)
      (λ b h. total_same
      (λ a. total (λ i. total (λ j. cell_changes old new (64 * a + j) (64 * b + i)) 64) 64)
      (λ a. tile_changes old new (words_across old.width * b + a)) (words_across old.width)
      (λ a ha. sym (tile_there a b ha)))
      ∙ sym (total_blocks (tile_changes old new) (words_across old.width)
      (tiles_down old.height)))))
