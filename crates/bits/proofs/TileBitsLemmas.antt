-- Tiles as words: masks, words written by them, and how many bits differ.
use Rattle.std.proofs.Common.{◌≡◌, ◌≢◌, ℕ, zero, suc, ◌+◌, ◌-◌, ◌*◌, ◌/◌, ◌%◌, ◌^◌, ◌<◌, ◌≤◌, ◌==◌}
use Rattle.std.proofs.Common.{◌&&◌, nat_le, nat_lt, not, Bool, true, false, cond, if◌then◌else◌}
use Rattle.std.proofs.Common.{List, get_or, set, length, min, max, bit_and, bit_or, refl, ap, subst}
use Rattle.std.proofs.Common.{sym, ◌∙◌, arith}
use Rattle.std.specs.Int.{bit_at, w64}
use Rattle.std.specs.Int.RustNames.{bit_xor}
use Rattle.std.specs.Int.Count.{ones}
use Rattle.std.specs.List.{range_with_len, sum_by, list_any}
use Rattle.std.proofs.lemmas.Nat.{ones_cat, ones-le, or_lt, xor_lt, and_le_l}
use Rattle.std.proofs.lemmas.Nat.Bits.{bit_at_lowest, bit_at-suc, bit_at_xor, bit_at_and, bit_at_or}
use Rattle.std.proofs.lemmas.Nat.Bits.{bit_at_not, bit_at-lt, bit_at_ones, bit_at_ones_above}
use Rattle.std.proofs.lemmas.Nat.Bits.{bit_at_mask_inside, bit_at_mask_below, ones_shl, ones_shr}
use Rattle.std.proofs.lemmas.Nat.Bits.{same_from_bits_below}
use Rattle.std.proofs.lemmas.List.Sums.{sum_by-cons}
use Rattle.std.proofs.lemmas.List.{get_or-set_same, get_or-set_other, length-set}
use Rattle.std.proofs.lemmas.List.FromFn.{get_or-map-range_with_len, length-map-range_with_len}
use Rattle.std.proofs.lemmas.List.FromFn.{get_or-range_with_len, length-range_with_len, fill_by_all}
use Rattle.std.proofs.lemmas.List.Folds.{list_any_at, list_any_none}
use Rattle.std.proofs.lemmas.Bool.{cases_eq}
use Rattle.std.proofs.lemmas.Bool.Decides.{nat_tests}
use Rattle.std.proofs.Math.Nat.{pow-succ'}
use mathlib.Core.Logic.{inl, inr}
use Rattle.bits.specs.Changes.{differs}
use Rattle.bits.specs.TileWords.{is_bit, filled_word, filled_words, bits_changed, words_changed}
use Rattle.bits.specs.TileWords.{words_differ}
use Rattle.bits.proofs.TileLemmas.{word_where-lt, bit_at-word_where}
use Rattle.bits.proofs.ChangesLemmas.{sum_by-same, sum_by-zero, sum_but_one, one, differs-self}

-- the lesser of two bits is 1 exactly between the start of the one and the end of the other
both_bits : (from to j m n : ℕ) → (j < from → m ≡ 0) → (from ≤ j → m ≡ 1) → (j < to → n ≡ 1)
    → (to ≤ j → n ≡ 0)
    → min m n ≡ cond (nat_le from j && nat_lt j to) 1 0
both_bits from to j m n low high inside past = grind (arith, nat_tests)

-- the mask of two shifts has the bits of the columns from one up to another
pub columns_bits : (from to : ℕ) → from < to → to ≤ 64 → (j : ℕ) → j < 64
    → bit_at (bit_and ((2 ^ 64 - 1) * 2 ^ from % 2 ^ 64) ((2 ^ 64 - 1) / 2 ^ (64 - to))) j
    ≡ cond (nat_le from j && nat_lt j to) 1 0
columns_bits from to some within j h =
    let upper : (2 ^ 64 - 1) * 2 ^ from % 2 ^ 64 ≡ 2 ^ 64 - 2 ^ from =
    ones_shl 64 from (omega arith) in
    let lower : (2 ^ 64 - 1) / 2 ^ (64 - to) ≡ 2 ^ to - 1 =
    ones_shr 64 (64 - to) (omega arith)
    ∙ ap (λ (k : ℕ). 2 ^ k - 1) (let back : 64 - (64 - to) ≡ to = omega arith in back) in
    bit_at_and _ _ j
    ∙ both_bits from to j _ _
    (λ l. ap (λ (n : ℕ). bit_at n j) upper ∙ bit_at_mask_below from 64 j l)
    (λ l. ap (λ (n : ℕ). bit_at n j) upper ∙ bit_at_mask_inside from 64 j l h)
    (λ l. ap (λ (n : ℕ). bit_at n j) lower ∙ bit_at_ones to j l)
    (λ l. ap (λ (n : ℕ). bit_at n j) lower ∙ bit_at_ones_above to j l)

-- a bit with the mask's bit set
bit_set : (b : ℕ) (inside : Bool) → b < 2
    → max b (cond inside 1 0) ≡ cond (if inside then true else (b == 1)) 1 0
bit_set b true few = grind (arith, nat_tests)
bit_set b false few = grind (arith, nat_tests)

-- a bit with the bit of the mask cleared is the bit outside the mask
bit_clear : (b : ℕ) (inside : Bool) → b < 2
    → min b (1 - cond inside 1 0) ≡ cond (if inside then false else (b == 1)) 1 0
bit_clear b true few = grind (arith, nat_tests)
bit_clear b false few = grind (arith, nat_tests)

-- the columns of a mask
abbrev pub IsMask : ℕ → ℕ → ℕ → Type 0
IsMask from to mask = (j : ℕ) → j < 64 → bit_at mask j ≡ cond (nat_le from j && nat_lt j to) 1 0

-- a word with the columns of a mask set
pub filled_black : (word from to mask : ℕ) → word < 2 ^ 64 → mask < 2 ^ 64 → IsMask from to mask
    → bit_or word mask ≡ filled_word word from to (λ j. true)
unfolding filled_word
filled_black word from to mask fits mask_fits is =
    same_from_bits_below 64 _ _ (or_lt 64 word mask fits mask_fits) (word_where-lt _ 64) (λ j h.
    bit_at_or word mask j
    ∙ (ap (max (bit_at word j)) (is j h)
    ∙ (bit_set (bit_at word j) (nat_le from j && nat_lt j to) (bit_at-lt word j)
    ∙ sym (bit_at-word_where (λ j. if nat_le from j && nat_lt j to then true else is_bit word j) 64
    j h))))

-- a word with the columns of a mask cleared is filled with white there
pub filled_white : (word from to mask : ℕ) → word < 2 ^ 64 → mask < 2 ^ 64 → IsMask from to mask
    → bit_and word (2 ^ 64 - 1 - mask) ≡ filled_word word from to (λ j. false)
unfolding filled_word
filled_white word from to mask fits mask_fits is =
    same_from_bits_below 64 _ _ (let less = and_le_l word (2 ^ 64 - 1 - mask) in omega arith)
    (word_where-lt _ 64) (λ j h.
    bit_at_and word (2 ^ 64 - 1 - mask) j
    ∙ (ap (min (bit_at word j)) (bit_at_not w64 mask j mask_fits h ∙ ap (λ (b : ℕ). 1 - b) (is j h))
    ∙ (bit_clear (bit_at word j) (nat_le from j && nat_lt j to) (bit_at-lt word j)
    ∙ sym (bit_at-word_where (λ j. if nat_le from j && nat_lt j to then false else is_bit word j) 64
    j h))))

-- the bits from the second on are those of the half
shifted : (n a k : ℕ)
    → sum_by (bit_at n) (range_with_len (a + 1) k) ≡ sum_by (bit_at (n / 2)) (range_with_len a k)
shifted n a zero = refl
shifted n a (suc k) =
    let here : bit_at n (a + 1) ≡ bit_at (n / 2) a =
    ap (bit_at n) (let next : a + 1 ≡ suc a = omega arith in next) ∙ bit_at-suc n a in
    omega (
      arith,
      sum_by-cons (bit_at n) (a + 1) (range_with_len (a + 1 + 1) k),
      sum_by-cons (bit_at (n / 2)) a (range_with_len (a + 1) k),
      here,
      shifted n (a + 1) k,
    )

-- 0 and 1 have as many ones as they are
ones_small : (r : ℕ) → r < 2 → ones r ≡ r
unfolding ones
ones_small zero l = refl
ones_small (suc zero) l = refl
ones_small (suc (suc r)) l = absurd (let no : suc (suc r) < 2 = l in omega arith)

-- a number's ones are its bits, added up
ones_bits : (k n : ℕ) → n < 2 ^ k → ones n ≡ sum_by (bit_at n) (range_with_len 0 k)
ones_bits zero n l = grind (arith, ones_small, nat_tests)
ones_bits (suc k) n l =
    let cut : n ≡ n / 2 * 2 ^ 1 + n % 2 = omega arith in
    let low : n % 2 < 2 ^ 1 = omega arith in
    let half : n / 2 < 2 ^ k =
    (let twice : n < 2 * 2 ^ k = subst (λ (m : ℕ). n < m) (pow-succ' 2 k) l in omega arith) in
    let parts : ones n ≡ ones (n / 2) + ones (n % 2) = ap ones cut
    ∙ ones_cat 1 (n / 2) (n % 2) low in
    omega (
      arith,
      parts,
      ones_bits k (n / 2) half,
      ones_small (n % 2) low,
      bit_at_lowest n,
      sum_by-cons (bit_at n) 0 (range_with_len 1 k),
      shifted n 0 k,
    )

-- the sum of two bits has the bit where they differ
bit_differs : (m n : ℕ) → m < 2 → n < 2 → (m + n) % 2 ≡ cond (differs (m == 1) (n == 1)) 1 0
bit_differs zero zero hm hn = refl
bit_differs zero (suc zero) hm hn = refl
bit_differs (suc zero) zero hm hn = refl
bit_differs (suc zero) (suc zero) hm hn = refl
bit_differs (suc (suc m)) n hm hn = absurd (let no : suc (suc m) < 2 = hm in omega arith)
bit_differs m (suc (suc n)) hm hn = absurd (let no : suc (suc n) < 2 = hn in omega arith)

-- the ones of the exclusive or are the columns that differ
pub ones_changed : (a b : ℕ) → a < 2 ^ 64 → b < 2 ^ 64 → ones (bit_xor a b) ≡ bits_changed a b
unfolding bits_changed
ones_changed a b ha hb =
    ones_bits 64 (bit_xor a b) (xor_lt 64 a b ha hb)
    ∙ sum_by-same (bit_at (bit_xor a b)) (λ j. one (differs (is_bit a j) (is_bit b j))) 0 64
    (λ j low high.
    bit_at_xor a b j ∙ bit_differs (bit_at a j) (bit_at b j) (bit_at-lt a j) (bit_at-lt b j))

-- at most 64 columns differ
pub ones_few : (a b : ℕ) → a < 2 ^ 64 → b < 2 ^ 64 → ones (bit_xor a b) ≤ 64
ones_few a b ha hb = ones-le 64 (bit_xor a b) (xor_lt 64 a b ha hb)

-- how far the filling of a tile has come, and what it has counted
pub record IsTileFilling (old now : List ℕ) (x0 y0 x1 y : ℕ) (value : ℕ → ℕ → Bool) (changed : ℕ) :
    Type 0 where
  pub is : now ≡ filled_words old x0 y0 x1 y value
  pub count : changed ≡ words_changed old now
  pub few : changed ≤ 64 * y

-- a row of a filled tile is filled where the filling has reached it, and otherwise as it was
pub filled_words-row : (old : List ℕ) (x0 y0 x1 y : ℕ) (value : ℕ → ℕ → Bool) (i : ℕ) → i < 64
    → get_or (filled_words old x0 y0 x1 y value) i 0
    ≡ (if nat_le y0 i && nat_lt i y then filled_word (get_or old i 0) x0 x1 (λ j. value j i)
    else get_or old i 0)
unfolding filled_words
filled_words-row old x0 y0 x1 y value i h =
    get_or-map-range_with_len (λ i. if nat_le y0 i && nat_lt i y
    then filled_word (get_or old i 0) x0 x1 (λ j. value j i) else get_or old i 0) 0 64 i i 0 h
    (omega arith)

-- a filled tile has 64 rows
pub filled_words-length : (old : List ℕ) (x0 y0 x1 y : ℕ) (value : ℕ → ℕ → Bool)
    → length (filled_words old x0 y0 x1 y value) ≡ 64
unfolding filled_words
filled_words-length old x0 y0 x1 y value = grind (arith, length-map-range_with_len, nat_tests)

-- words with these rows are the filled ones
filled_words_is : (old now : List ℕ) (x0 y0 x1 y : ℕ) (value : ℕ → ℕ → Bool) → length now ≡ 64
    → ((i : ℕ) → i < 64
    → get_or now i 0 ≡ (if nat_le y0 i && nat_lt i y
    then filled_word (get_or old i 0) x0 x1 (λ j. value j i) else get_or old i 0))
    → now ≡ filled_words old x0 y0 x1 y value
unfolding filled_words
filled_words_is old now x0 y0 x1 y value long rows =
    fill_by_all (λ i. if nat_le y0 i && nat_lt i y
    then filled_word (get_or old i 0) x0 x1 (λ j. value j i) else get_or old i 0) now 64 0 long
    rows

-- a choice by an empty range is the second value
no_row : (y0 i : ℕ) (a b : ℕ) → b ≡ (if nat_le y0 i && nat_lt i y0 then a else b)
no_row y0 i a b = grind (arith, nat_tests)

-- a choice by a range that ends at a row is the second value at this row
next_row : (y0 y : ℕ) (a b : ℕ) → (if nat_le y0 y && nat_lt y y then a else b) ≡ b
next_row y0 y a b = grind (arith, nat_tests)

-- a choice by a range that has its last row at this row is the first value
last_row : (y0 y i : ℕ) (a b : ℕ) → y0 ≤ y → i ≡ y
    → a ≡ (if nat_le y0 i && nat_lt i (y + 1) then a else b)
last_row y0 y i a b up here = grind (arith, nat_tests)

-- a choice by a range with one more row is the same at each other row
other_row : (y0 y i : ℕ) (a b : ℕ) → i ≢ y
    → (if nat_le y0 i && nat_lt i y then a else b)
    ≡ (if nat_le y0 i && nat_lt i (y + 1) then a else b)
other_row y0 y i a b apart = grind (arith, nat_tests)

-- a word differs from itself in no bit
bits_changed-self : (a : ℕ) → bits_changed a a ≡ 0
unfolding bits_changed
bits_changed-self a = grind (arith, sum_by-zero, one, differs-self, nat_tests)

-- a tile differs from itself in no cell
pub words_changed-self : (words : List ℕ) → words_changed words words ≡ 0
unfolding words_changed
words_changed-self words = grind (arith, sum_by-zero, bits_changed-self, nat_tests)

-- one row that was as at first is written
words_changed-set : (old now : List ℕ) (i word : ℕ) → i < 64 → length now ≡ 64
    → get_or now i 0 ≡ get_or old i 0
    → words_changed old (set now i word) ≡ words_changed old now
    + bits_changed (get_or old i 0) word
unfolding words_changed
words_changed-set old now i word h long same =
    let here = get_or-set_same now i word 0 (omega arith) in
    let parts = sum_but_one (λ k. bits_changed (get_or old k 0) (get_or (set now i word) k 0))
    (λ k. bits_changed (get_or old k 0) (get_or now k 0)) 0 64 i (omega arith) (omega arith)
    (λ k lo hi apart. ap (bits_changed (get_or old k 0)) (get_or-set_other now i k word 0 apart)) in
    let was : bits_changed (get_or old i 0) (get_or now i 0) ≡ 0 =
    ap (bits_changed (get_or old i 0)) same ∙ bits_changed-self (get_or old i 0) in
    let is : bits_changed (get_or old i 0) (get_or (set now i word) i 0)
    ≡ bits_changed (get_or old i 0) word = ap (bits_changed (get_or old i 0)) here in
    omega (arith, parts, was, is)

-- at first no row is filled, and nothing is counted
pub tile_filling_none : (old : List ℕ) (x0 y0 x1 : ℕ) (value : ℕ → ℕ → Bool) → length old ≡ 64
    → IsTileFilling old old x0 y0 x1 y0 value 0
tile_filling_none old x0 y0 x1 value long = record {
  is = filled_words_is old old x0 y0 x1 y0 value long (λ i h. no_row y0 i _ _);
  count = sym (words_changed-self old);
  few = omega arith;
}

-- the next row is as at first
tile_filling_read : (old now : List ℕ) (x0 y0 x1 y : ℕ) (value : ℕ → ℕ → Bool) (changed : ℕ)
    → IsTileFilling old now x0 y0 x1 y value changed → y < 64
    → get_or now y 0 ≡ get_or old y 0
tile_filling_read old now x0 y0 x1 y value changed so_far h =
    grind (arith, filled_words-row, next_row, nat_tests)

-- with one more row the filling has come to the next row, and has counted its changes
pub tile_filling_more : (old now : List ℕ) (x0 y0 x1 y : ℕ) (value : ℕ → ℕ → Bool) (changed : ℕ)
    (read word more : ℕ) → IsTileFilling old now x0 y0 x1 y value changed
    → y0 ≤ y → y < 64 → read ≡ get_or now y 0 → word ≡ filled_word read x0 x1 (λ j. value j y)
    → more ≡ bits_changed read word → more ≤ 64
    → IsTileFilling old (set now y word) x0 y0 x1 (y + 1) value (changed + more)
tile_filling_more old now x0 y0 x1 y value changed read word more so_far up h read_is word_is
    more_is small =
    let as_old = tile_filling_read old now x0 y0 x1 y value changed so_far h in
    let long : length now ≡ 64 = ap (λ (ws : List ℕ). length ws) so_far.is
    ∙ filled_words-length old x0 y0 x1 y value in
    let first : read ≡ get_or old y 0 = read_is ∙ as_old in
    let few = so_far.few in
    let row_is = λ (i : ℕ) (hi : i < 64). filled_words-row old x0 y0 x1 y value i hi in
    let sum = words_changed-set old now y word h long as_old in
    let more_now : more ≡ bits_changed (get_or old y 0) word = more_is
    ∙ ap (λ (w : ℕ). bits_changed w word) first in
    let count = so_far.count in
    record {
      is = filled_words_is old (set now y word) x0 y0 x1 (y + 1) value
          (length-set now y word ∙ long) (λ i hi.
          elim (cases_eq i y) [
            | inl here ↦
                ap (λ (k : ℕ). get_or (set now y word) k 0) here
                ∙ (get_or-set_same now y word 0 (omega arith)
                ∙ (word_is
                ∙ (ap (λ (w : ℕ). filled_word w x0 x1 (λ j. value j y)) first
                ∙ (ap (λ (k : ℕ). filled_word (get_or old k 0) x0 x1 (λ j. value j k)) (sym here)
                ∙ last_row y0 y i _ _ up here))))
            | inr apart ↦
                get_or-set_other now y i word 0 apart
                ∙ (ap (λ (ws : List ℕ). get_or ws i 0) so_far.is
                ∙ (row_is i hi ∙ other_row y0 y i _ _ apart))
          ]);
      count = omega (arith, sum, more_now, count);
      few = omega (arith, few, small);
    }

-- a number added to 0 is itself
plain : (i : ℕ) → 0 + i ≡ i
plain i = omega arith

-- where one number of a range passes a test, some number passes
any_in_range : (p : ℕ → Bool) (n i : ℕ) → i < n → p i ≡ true
    → list_any p (range_with_len 0 n) ≡ true
any_in_range p n i h passes =
    list_any_at p (range_with_len 0 n) i 0 (omega (arith, length-range_with_len 0 n))
    (ap p (get_or-range_with_len 0 n i 0 h ∙ plain i) ∙ passes)

-- no number of a range passes
none_in_range : (p : ℕ → Bool) (n : ℕ) → ((i : ℕ) → i < n → p i ≡ false)
    → list_any p (range_with_len 0 n) ≡ false
none_in_range p n fails =
    grind (arith, list_any_none, length-range_with_len, get_or-range_with_len, plain, nat_tests)

-- the test that two numbers are unequal is true where they differ
unequal : (a b : ℕ) → a ≢ b → not (a == b) ≡ true
unequal a b apart = grind (arith, nat_tests)

-- the test that two numbers are unequal is false where they are equal
equal : (a b : ℕ) → a ≡ b → not (a == b) ≡ false
equal a b same = grind (arith, nat_tests)

-- a choice by a range is the second value where the values are equal within the range
filled_row : (y0 y1 i a b : ℕ) → (y0 ≤ i → i < y1 → a ≡ b)
    → b ≡ (if nat_le y0 i && nat_lt i y1 then a else b)
filled_row y0 y1 i a b same = grind (arith, nat_tests)

-- a choice by a range is the first value within the range
inside_row : (y0 y1 i a b : ℕ) → y0 ≤ i → i < y1 → (if nat_le y0 i && nat_lt i y1 then a else b) ≡ a
inside_row y0 y1 i a b low high = grind (arith, nat_tests)

-- a row that the filling changes tells that the tile would change
pub row_would_change : (words : List ℕ) (x0 y0 x1 y1 y : ℕ) (value : ℕ → ℕ → Bool) (old : ℕ)
    → y0 ≤ y → y < y1 → y1 ≤ 64 → old ≡ get_or words y 0
    → filled_word old x0 x1 (λ j. value j y) ≢ old
    → true ≡ words_differ words (filled_words words x0 y0 x1 y1 value)
unfolding words_differ
row_would_change words x0 y0 x1 y1 y value old low high within read other =
    let now : get_or (filled_words words x0 y0 x1 y1 value) y 0
    ≡ filled_word old x0 x1 (λ j. value j y) =
    filled_words-row words x0 y0 x1 y1 value y (omega arith)
    ∙ (inside_row y0 y1 y _ _ low high
    ∙ ap (λ (w : ℕ). filled_word w x0 x1 (λ j. value j y)) (sym read)) in
    sym
    (any_in_range
    (λ i. not (get_or words i 0 == get_or (filled_words words x0 y0 x1 y1 value) i 0)) 64 y
    (omega arith) (unequal _ _ (λ e. other (sym now ∙ (sym e ∙ sym read)))))

-- the rows that the filling has reached stay
abbrev pub StaysTo : List ℕ → ℕ → ℕ → ℕ → (ℕ → ℕ → Bool) → ℕ → Type 0
StaysTo words x0 x1 y0 value y =
    (i : ℕ) → y0 ≤ i → i < y
    → filled_word (get_or words i 0) x0 x1 (λ j. value j i) ≡ get_or words i 0

-- where all rows of the filling stay, the tile stays
pub nothing_would_change : (words : List ℕ) (x0 y0 x1 y1 y : ℕ) (value : ℕ → ℕ → Bool)
    → StaysTo words x0 x1 y0 value y → y1 ≤ y
    → false ≡ words_differ words (filled_words words x0 y0 x1 y1 value)
unfolding words_differ
nothing_would_change words x0 y0 x1 y1 y value so_far end =
    sym
    (none_in_range
    (λ i. not (get_or words i 0 == get_or (filled_words words x0 y0 x1 y1 value) i 0)) 64
    (λ i h. equal _ _ (filled_row y0 y1 i _ _ (λ low high. so_far i low (omega arith))
    ∙ sym (filled_words-row words x0 y0 x1 y1 value i h))))

-- where the test that two numbers are unequal is false, they are equal
told_same : (a b : ℕ) → not (a == b) ≡ false → a ≡ b
told_same a b same = grind (arith, nat_tests)

-- tiles that no row tells apart are equal
pub words_differ_not : (a b : List ℕ) → length a ≡ 64 → length b ≡ 64 → words_differ a b ≡ false
    → a ≡ b
unfolding words_differ
words_differ_not a b la lb none =
    fill_by_all (λ i. get_or b i 0) a 64 0 la
    (λ i h. told_same _ _ (none_of_range (λ i. not (get_or a i 0 == get_or b i 0)) 64 none i h))
    ∙ sym (fill_by_all (λ i. get_or b i 0) b 64 0 lb (λ i h. refl))
  where
    none_of_range : (p : ℕ → Bool) (n : ℕ) → list_any p (range_with_len 0 n) ≡ false → (i : ℕ)
        → i < n → p i ≡ false
    none_of_range p n none i h =
        elim (p i) as (λ b. p i ≡ b → b ≡ false) [
          | true ↦ λ e. let some = any_in_range p n i h e in
              absurd (let both = sym some ∙ none in cc)
          | false ↦ λ e. refl
        ] refl

-- how many columns of two words differ
pub ruleset columns_changed = (ones_changed, ones_few)
