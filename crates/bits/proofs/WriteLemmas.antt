-- What a bitmap is once a word of it, or a cell, has been written anew.
use Rattle.std.proofs.Common.{◌≡◌, ◌≢◌, ℕ, ◌+◌, ◌-◌, ◌*◌, ◌/◌, ◌%◌, ◌^◌, ◌<◌, ◌≤◌, ◌==◌, ◌&&◌}
use Rattle.std.proofs.Common.{if◌then◌else◌, Bool, false, cond, List, get_or, set, length, refl, ap}
use Rattle.std.proofs.Common.{sym, ◌∙◌, arith}
use Rattle.std.specs.Int.{bit_at}
use lib.Bits.{bit_and}
use Rattle.std.proofs.lemmas.Bool.Decides.{nat_tests}
use Rattle.std.proofs.lemmas.List.{get_or_read_under, get_or-set_same, get_or-set_other, length-set}
use Rattle.std.proofs.lemmas.Nat.{same_from_place, rows}
use Rattle.std.proofs.lemmas.Nat.Bits.{bit_at_and, bit_at-lt, bit_at_ones, bit_at_ones_above}
use Rattle.bits.specs.Cells.{with_cell, IsInside}
use Rattle.bits.specs.Words.{words_across}
use Rattle.bits.specs.Stored.{is_stored, cells_stored, IsStored}
use Rattle.bits.specs.Writes.{with_word}
use Rattle.bits.proofs.CellsLemmas.{cells_where-same, has-cells_where}
use Rattle.bits.proofs.StoredLemmas.{test_of_bit}

-- the bits below a place are kept by a mask of ones below it
pub bit_at-low : (n k i : ℕ) → i < k → bit_at (bit_and n (2 ^ k - 1)) i ≡ bit_at n i
bit_at-low n k i below =
    let inside = bit_at_ones k i below in
    let small = bit_at-lt n i in
    bit_at_and n (2 ^ k - 1) i ∙ rw inside (omega arith)

-- the bits from there on are not
pub bit_at-low_above : (n k i : ℕ) → k ≤ i → bit_at (bit_and n (2 ^ k - 1)) i ≡ 0
bit_at-low_above n k i above = grind (arith, bit_at_ones_above, bit_at_and, nat_tests)

-- a value that is told at a word of a row and at each other is a choice by that word
at_word : (b y k index : ℕ) (result here old : Bool) → (b ≡ y → k ≡ index → result ≡ here)
    → ((b ≡ y → k ≢ index) → result ≡ old)
    → result ≡ (if b == y && k == index then here else old)
at_word b y k index result here old told other = grind (arith, nat_tests)

-- a cell past the edge has no obstacle, whether it is written or not
edge_test : (b y k index bit : ℕ) (old : Bool) → (k ≡ index → bit ≡ 0) → old ≡ false
    → (if b == y && k == index then bit == 1 else old) ≡ false
edge_test b y k index bit old none was = grind (arith, nat_tests)

-- a cell within the edge is written as the word tells
same_test : (b y k index kept word : ℕ) (old now : Bool) → (k ≡ index → kept ≡ word) → old ≡ now
    → (if b == y && k == index then kept == 1 else old)
    ≡ (if b == y && k == index then word == 1 else now)
same_test b y k index kept word old now same was = grind (arith, nat_tests)

-- a word that differs from what was there at one cell alone writes that cell
cell_test : (x y a b : ℕ) (here old black : Bool) → (a ≡ x → b ≡ y → here ≡ black)
    → (b ≡ y → a / 64 ≡ x / 64 → a % 64 ≢ x % 64 → here ≡ old)
    → (if b == y && a / 64 == x / 64 then here else old)
    ≡ (if a == x && b == y then black else old)
cell_test x y a b here old black told other = grind (arith, nat_tests)

-- a bit that isn't 1 is 0
bit_is_0 : (n : ℕ) → n < 2 → (n == 1) ≡ false → n ≡ 0
bit_is_0 n small none = grind (arith, nat_tests)

-- a word of a bitmap is to be replaced by another, without its bits past the edge
pub record IsWordWrite (width height : ℕ) (words : List ℕ) (y index place word kept : ℕ) :
    Type 0 where
  pub stored : IsStored width height words
  pub row : y < height
  pub column : index < words_across width
  pub place_is : place ≡ y * words_across width + index
  pub same : (i : ℕ) → i < 64 → 64 * index + i < width → bit_at kept i ≡ bit_at word i
  pub cleared : (i : ℕ) → i < 64 → width ≤ 64 * index + i → bit_at kept i ≡ 0

module _ (width height : ℕ) (words : List ℕ) (y index place word kept : ℕ)
    (write : IsWordWrite width height words y index place word kept) where
  -- after the write each column that the words have room for
  is_stored-written : (a b : ℕ) → a < 64 * words_across width
      → is_stored (words_across width) (set words place kept) a b
      ≡ (if b == y && a / 64 == index then bit_at kept (a % 64) == 1
      else is_stored (words_across width) words a b)
  is_stored-written a b room_a =
      let across = words_across width in
      let within : place < length words = grind (arith, rows, write.stored.as_many, write.row) in
      at_word b y (a / 64) index _ _ _
      (λ row column. ap (λ (k : ℕ). bit_at (get_or (set words place kept) k 0) (a % 64) == 1)
      ((λ i. row i * across + column i) ∙ sym write.place_is)
      ∙ ap (λ (w : ℕ). bit_at w (a % 64) == 1) (get_or-set_same words place kept 0 within))
      (λ differ. ap (λ (w : ℕ). bit_at w (a % 64) == 1)
      (get_or-set_other words place (b * across + a / 64) kept 0 (λ at.
      let parts = same_from_place b (a / 64) y index across (omega arith) write.column
      (at ∙ write.place_is) in differ parts.0 parts.1)))

  -- after the write the words are a bitmap still
  pub IsStored-written : IsStored width height (set words place kept)
  IsStored-written = record {
    width_is = write.stored.width_is;
    height_is = write.stored.height_is;
    as_many = length-set words place kept ∙ write.stored.as_many;
    edge = λ a b past room_a row. is_stored-written a b room_a
        ∙ edge_test b y (a / 64) index (bit_at kept (a % 64)) _
        (λ here. write.cleared (a % 64) (omega arith) (omega arith))
        (write.stored.edge a b past room_a row);
  }

  -- after the write the bitmap is the old one with that word's cells written
  pub cells_stored-written : cells_stored width height (set words place kept)
      ≡ with_word (cells_stored width height words) y index word
  cells_stored-written =
      cells_where-same width height _ _ (λ a b column row.
      is_stored-written a b (omega arith)
      ∙ same_test b y (a / 64) index (bit_at kept (a % 64)) (bit_at word (a % 64)) _ _
      (λ here. write.same (a % 64) (omega arith) (omega arith))
      (sym (has-cells_where width height (is_stored (words_across width) words) a b column row)))

-- a word of a bitmap is to be replaced by one that differs at the place of one cell
pub record IsCellWrite (width height : ℕ) (words : List ℕ) (x y index place old word : ℕ)
    (black : Bool) : Type 0 where
  pub stored : IsStored width height words
  pub inside : IsInside (cells_stored width height words) x y
  pub index_is : index ≡ y * words_across width + x / 64
  pub place_is : place ≡ x % 64
  pub read : old ≡ get_or words index old
  pub here : bit_at word place ≡ cond black 1 0
  pub others : (other : ℕ) → other < 64 → other ≢ place → bit_at word other ≡ bit_at old other

module _ (width height : ℕ) (words : List ℕ) (x y index place old word : ℕ) (black : Bool)
    (write : IsCellWrite width height words x y index place old word black) where
  -- the word that was there
  was : old ≡ get_or words (y * words_across width + x / 64) 0
  was =
      let column : x < width = write.inside.column in
      let row : y < height = write.inside.row in
      let below : index < length words = grind (arith, rows, write.stored.as_many, write.index_is)
      in
      get_or_read_under words index (length words) old 0 write.read below refl
      ∙ ap (λ (k : ℕ). get_or words k 0) write.index_is

  -- the write of the cell is one of its word
  as_word : IsWordWrite width height words y (x / 64) index word word
  as_word =
      let column : x < width = write.inside.column in
      record {
        stored = write.stored;
        row = write.inside.row;
        column = omega arith;
        place_is = write.index_is;
        same = λ i within before. refl;
        cleared = λ i within past.
            let at : (64 * (x / 64) + i) / 64 ≡ x / 64 = omega arith in
            let bit : (64 * (x / 64) + i) % 64 ≡ i = omega arith in
            write.others i within (omega arith)
            ∙ (ap (λ (w : ℕ). bit_at w i) was
            ∙ bit_is_0 _ (bit_at-lt _ i) (rw (at, bit) at (write.stored.edge (64 * (x / 64) + i) y
            past (omega arith) write.inside.row)));
      }

  -- after the write the words are a bitmap still
  pub IsStored-cell : IsStored width height (set words index word)
  IsStored-cell = IsStored-written width height words y (x / 64) index word word as_word

  -- after the write the bitmap is the old one with that cell written
  pub cells_stored-cell : cells_stored width height (set words index word)
      ≡ with_cell (cells_stored width height words) x y black
  cells_stored-cell =
      cells_stored-written width height words y (x / 64) index word word as_word
      ∙ cells_where-same width height _ _ (λ a b column row.
      cell_test x y a b _ _ black
      (λ here there. ap (λ (k : ℕ). bit_at word (k % 64) == 1) here
      ∙ (ap (λ (k : ℕ). bit_at word k == 1) (sym write.place_is) ∙ test_of_bit _ black write.here))
      (λ there here apart.
      ap (λ (n : ℕ). n == 1) (write.others (a % 64) (omega arith) (λ e. apart (e ∙ write.place_is)))
      ∙ (ap (λ (w : ℕ). bit_at w (a % 64) == 1) was
      ∙ ((λ i. bit_at (get_or words (sym there i * words_across width + sym here i) 0)
      (a % 64) == 1)
      ∙ sym (has-cells_where width height (is_stored (words_across width) words) a b column row)))))
