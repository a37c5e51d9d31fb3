-- The words of a map that lies in the caller's memory.
use Rattle.libclearmap.proofs.Names.{◌/◌, ◌%◌, nat_le, ◌&&◌, ◌==◌, ◌≡◌, ℕ, suc, ◌+◌, ◌-◌, ◌*◌, ◌^◌}
use Rattle.libclearmap.proofs.Names.{◌<◌, ◌≤◌, min, inl, inr, Bool, true, false, cond, List, length}
use Rattle.libclearmap.proofs.Names.{get_or, if◌then◌else◌, refl, sym, ap, ◌∙◌, arith, take, drop}
use Rattle.libclearmap.proofs.Names.{w64, bit_at, bit_not, nat_tests, bit_at-lt, bit_at-zero}
use Rattle.libclearmap.proofs.Names.{bit_at_and, bit_at_cat_high, bit_at_not, same_from_bits_below}
use Rattle.libclearmap.proofs.Names.{length-take-le, length-drop, get_or-take, get_or-drop}
use Rattle.libclearmap.proofs.Names.{pow-le-pow_right, IsBanded, IsBanded-all, IsSide, words_across}
use Rattle.libclearmap.proofs.Names.{word_where, IsBitmap-cells_where, has-cells_where}
use Rattle.libclearmap.proofs.Names.{has-cells_where_right, has-outside, bit_at-word_where}
use Rattle.libclearmap.proofs.Names.{word_where-lt, IsBlankRow, words_of_row, word_in_row}
use Rattle.libclearmap.proofs.Names.{ClearmapBits, IsShape, cells_of_bytes, cells_of_rows}
use Rattle.libclearmap.proofs.Names.{is_counted, is_obstacle_byte}
use lib.Bits.{bit_and}
use Rattle.libclearmap.specs.declared.layout.ClearmapBytes.{ClearmapBytes}

-- the bits of a number from its size on are 0
bit_high : (n k i : ℕ) → n < 2 ^ k → k ≤ i → bit_at n i ≡ 0
bit_high n k i small above = grind (arith, bit_at_cat_high 0 k n i, bit_at-zero)

-- the bits of words of cells, and the cells of a map
pub ruleset cell_bits = (
  arith,
  nat_tests,
  bit_at-zero,
  bit_at-lt,
  bit_at-word_where,
  has-cells_where,
  has-cells_where_right,
)

-- the bytes of up to 64 cells of a row tell its word
pub word_in_bytes : (map : ClearmapBytes) (bytes : List ℕ) (y k start count : ℕ)
    → IsShape map.width map.height map.width map.stride (length bytes)
    → k < words_across map.width → y < map.height → start ≡ y * map.stride + 64 * k
    → count ≡ min (map.width - 64 * k) 64
    → word_where (λ i. is_obstacle_byte map.low map.high
    (get_or (take (start + count - start) (drop start bytes)) i 0))
    (length (take (start + count - start) (drop start bytes)))
    ≡ get_or (words_of_row (cells_of_bytes map bytes) y) k 0
word_in_bytes map bytes y k start count shape within row start_is count_is =
    let part = take (start + count - start) (drop start bytes) in
    let room : start + count ≤ length bytes = grind arith in
    let long : length part ≡ count = grind (arith, length-drop, length-take-le) in
    let fits = word_where-lt (λ i. is_obstacle_byte map.low map.high (get_or part i 0)) count in
    let most : count ≤ 64 = omega arith in
    let powers : 2 ^ count ≤ 2 ^ 64 = pow-le-pow_right (omega arith) most in
    rw (word_in_row (cells_of_bytes map bytes) y k within, long) (same_from_bits_below 64 _ _
    (omega arith) (word_where-lt _ 64) (λ i bit.
    grind (cell_bits, get_or-take, get_or-drop, bit_high)))

-- what two tests tell of a block is a word
pub word_of_tests : (low high p q word : ℕ) (bytes : List ℕ) → length bytes ≡ 64
    → ((k : ℕ) → k < 64 → bit_at p k ≡ cond (nat_le low (get_or bytes k 0)) 1 0)
    → ((k : ℕ) → k < 64 → bit_at q k ≡ cond (nat_le (get_or bytes k 0) high) 1 0)
    → word ≡ bit_and p q → word < 2 ^ 64 → word
    ≡ word_where (λ i. is_obstacle_byte low high (get_or bytes i 0)) (length bytes)
word_of_tests low high p q word bytes many least most both fits =
    rw many (same_from_bits_below 64 word _ fits (word_where-lt _ 64) (λ i bit.
    grind (arith, nat_tests, bit_at_and, bit_at-word_where, least i bit, most i bit)))

-- the bits of a word of a row, without those past the edge, are the row's word where its band isn't
-- known to be blank; else that is 0
pub word_in_bits : (map : ClearmapBits) (words : List ℕ) (y k own : ℕ) → k < words_across map.width
    → y < map.height → own < 2 ^ 64
    → ((i : ℕ) → i < map.width - 64 * k → i < 64 → bit_at own i
    ≡ bit_at (get_or words (y * map.stride + k) 0) i)
    → ((i : ℕ) → map.width - 64 * k ≤ i → i < 64 → bit_at own i ≡ 0)
    → (if is_counted map.blank_bands y then own else 0)
    ≡ get_or (words_of_row (cells_of_rows map words) y) k 0
word_in_bits map words y k own within row fits kept cleared =
    rw (word_in_row (cells_of_rows map words) y k within) (same_from_bits_below 64 _ _ (grind arith)
    (word_where-lt _ 64) (λ i bit.
    let word_is : (64 * k + i) / 64 ≡ k = omega arith in
    let place : (64 * k + i) % 64 ≡ i = omega arith in
    grind (cell_bits, kept i, cleared i)))

-- a map in bits has no obstacle in a band that is said to be blank
pub IsBanded-rows : (map : ClearmapBits) (words : List ℕ) → IsSide map.width → IsSide map.height
    → map.blank_bands < 2 ^ 64 → IsBanded (cells_of_rows map words) (bit_not w64 map.blank_bands)
IsBanded-rows map words wide high fits x y obstacle =
    let inside = has-outside _ (IsBitmap-cells_where _ _ _ wide high) x y obstacle in
    grind (arith, nat_tests, has-cells_where, bit_at_not w64 map.blank_bands (y / 64) fits)

-- what a map says of its size and of its bands
pub ruleset maps = (IsBitmap-cells_where, IsBanded-all, IsBanded-rows)
