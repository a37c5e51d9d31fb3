-- How a bitmap lies in words: what a read of the words tells, and what a write to one of them
-- changes.
use Rattle.std.proofs.Common.{◌≡◌, ℕ, ◌+◌, ◌-◌, ◌*◌, ◌/◌, ◌%◌, ◌<◌, ◌≤◌, ◌==◌, ◌↔◌}
use Rattle.std.proofs.Common.{IsTrue, Bool, true, false, cond, List, get_or}
use Rattle.std.proofs.Common.{take, drop, length, ap, sym, ◌∙◌, arith}
use Rattle.std.specs.Int.{bit_at}
use Rattle.std.proofs.lemmas.List.{get_or_read_under}
use Rattle.std.proofs.lemmas.List.{length-take, length-drop, get_or-take, get_or-drop}
use Rattle.std.proofs.lemmas.Nat.{rows}
use Rattle.std.proofs.lemmas.Nat.Bits.{bit_at-lt}
use Rattle.std.proofs.lemmas.Bool.{cases_lt}
use Rattle.std.proofs.lemmas.Bool.Decides.{nat_tests}
use Rattle.bits.specs.Cells.{Cells, has, IsBitmap, IsInside}
use Rattle.bits.specs.Words.{words_across, IsRowOf}
use Rattle.bits.specs.Stored.{is_stored, cells_stored, IsStored}
use Rattle.bits.proofs.CellsLemmas.{has-cells_where, has-cells_where_right, cells_where-same}
use Rattle.bits.proofs.CellsLemmas.{IsBitmap-cells_where}

-- what lies in words is a bitmap
pub IsBitmap-cells_stored : (width height : ℕ) (words : List ℕ) → IsStored width height words
    → IsBitmap (cells_stored width height words)
IsBitmap-cells_stored width height words stored = grind (arith, IsBitmap-cells_where, nat_tests)

-- the words tell of each column that they have room for, past the edge too
pub has-cells_stored : (width height : ℕ) (words : List ℕ) → IsStored width height words → (x y : ℕ)
    → x < 64 * words_across width → y < height
    → has (cells_stored width height words) x y ≡ is_stored (words_across width) words x y
has-cells_stored width height words stored x y hx hy =
    grind (arith, cases_lt, has-cells_where, has-cells_where_right, nat_tests)

-- a bit is 1 where the test against 1 is true, and otherwise 0
bit_of_test : (n : ℕ) → n < 2 → n ≡ cond (n == 1) 1 0
bit_of_test n h = grind (arith, nat_tests)

-- a bit that is written as a test says so when it is read
pub test_of_bit : (n : ℕ) (bit : Bool) → n ≡ cond bit 1 0 → (n == 1) ≡ bit
test_of_bit n true h = grind (arith, nat_tests)
test_of_bit n false h = grind (arith, nat_tests)

-- a test that is true exactly where the bit is 1
test_is : (n : ℕ) (test : Bool) → IsTrue test ↔ (n ≡ 1) → test ≡ (n == 1)
test_is n true h = grind (arith, nat_tests)
test_is n false h = grind (arith, nat_tests)

-- the bit that is read is the cell's
pub has_read : (width height : ℕ) (words : List ℕ) → IsStored width height words
    → (x y index place word : ℕ) (test : Bool) → IsInside (cells_stored width height words) x y
    → index ≡ y * words_across width + x / 64 → place ≡ x % 64
    → word ≡ get_or words index word → IsTrue test ↔ (bit_at word place ≡ 1)
    → test ≡ has (cells_stored width height words) x y
has_read width height words stored x y index place word test inside index_is place_is read says =
    grind (arith, rows, test_is, get_or_read_under, has-cells_where, nat_tests)

-- the words from the start of a row on tell the row of the bitmap
IsRowOf-take-drop : (width height : ℕ) (words : List ℕ) → IsStored width height words → (y : ℕ)
    → y < height
    → IsRowOf (cells_stored width height words) y
    (take (words_across width) (drop (y * words_across width) words))
IsRowOf-take-drop width height words stored y hy =
    let across = words_across width in
    let start = y * across in
    let row = take across (drop start words) in
    let enough : start + across ≤ length words = grind (arith, rows, stored.as_many) in
    record {
      as_many = omega (arith, length-take across (drop start words), length-drop start words);
      bits = λ k i hk hi.
          let column : ℕ = 64 * k + i in
          let wide : column < 64 * across = omega arith in
          let read : get_or row k 0 ≡ get_or words (start + k) 0 =
          get_or-take across (drop start words) k 0 hk ∙ get_or-drop start words k 0 in
          let word : k ≡ column / 64 = omega arith in
          let bit : i ≡ column % 64 = omega arith in
          let bit_now : bit_at (get_or words (start + k) 0) i
          ≡ bit_at (get_or words (start + column / 64) 0) (column % 64) = cc in
          ap (λ (w : ℕ). bit_at w i) read
          ∙ (bit_now
          ∙ (bit_of_test _ (bit_at-lt (get_or words (start + column / 64) 0) (column % 64))
          ∙ ap (λ (test : Bool). cond test 1 0)
          (sym (has-cells_stored width height words stored column y wide hy))));
    }

-- the words of a row, as a slice of all takes them, tell that row
pub IsRowOf_read : (width height : ℕ) (words : List ℕ) → IsStored width height words
    → (y from across : ℕ) → y < height → from ≡ y → across ≡ words_across width
    → IsRowOf (cells_stored width height words) y
    (take (from * across + across - from * across) (drop (from * across) words))
IsRowOf_read width height words stored y from across hy from_is across_is =
    let count : from * across + across - from * across ≡ across = omega arith in
    rw (count, from_is, across_is) (IsRowOf-take-drop width height words stored y hy)

-- what a bitmap's contents show is a bitmap
pub kept_bitmap : {width height : ℕ} {words : List ℕ} (cells : Cells)
    → IsStored width height words → cells_stored width height words ≡ cells → IsBitmap cells
kept_bitmap cells stored is = rw (← is) (IsBitmap-cells_stored _ _ _ stored)

-- what a clause says of a bitmap that is read or written
pub ruleset bitmaps = (kept_bitmap, IsBitmap-cells_where)
