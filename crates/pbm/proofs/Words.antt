-- Eight bytes as a word, and the words of a bitmap that is being read.
use Rattle.std.proofs.Common.{◌≡◌, ℕ, zero, suc, ◌+◌, ◌-◌, ◌*◌, ◌/◌, ◌%◌, ◌^◌, ◌<◌, ◌≤◌, ◌==◌, ◌&&◌}
use Rattle.std.proofs.Common.{Bool, true, ltb, List, [], ◌∷◌, get_or, refl, sym, ap}
use Rattle.std.proofs.Common.{◌∙◌, inl, inr, arith}
use Rattle.std.specs.Int.{bit_at, reverse_bits_onto}
use Rattle.std.proofs.lemmas.Bool.{cases_lt, lt-ltb}
use Rattle.std.proofs.lemmas.Nat.Bits.{bit_at-suc, bit_at-zero, bit_at_lowest, bit_at_cat_low}
use Rattle.std.proofs.lemmas.Nat.Bits.{bit_at_cat_high}
use Rattle.bits.specs.Cells.{Cells, cells_where}
use Rattle.bits.specs.Words.{words_across}
use Rattle.pbm.specs.Image.{raw_pixel}
use Rattle.bits.proofs.CellsLemmas.{cells_where-same}
use Rattle.std.proofs.lemmas.Grind.{common_steps}
use Rattle.std.proofs.lemmas.Bool.Decides.{nat_tests}

-- where another number's bits are turned onto a number, its own stand above those
bit_at-reverse_high : (k n front i : ℕ) → k ≤ i
    → bit_at (reverse_bits_onto k n front) i ≡ bit_at front (i - k)
unfolding reverse_bits_onto
bit_at-reverse_high zero n front i beyond = let same : i ≡ i - 0 = omega arith in
    ap (bit_at front) same
bit_at-reverse_high (suc k) n front i beyond =
    let next : i - k ≡ suc (i - suc k) = omega arith in
    let half : (front * 2 + n % 2) / 2 ≡ front = omega arith in
    bit_at-reverse_high k (n / 2) (front * 2 + n % 2) i (omega arith)
    ∙ (ap (bit_at (front * 2 + n % 2)) next
    ∙ (bit_at-suc (front * 2 + n % 2) (i - suc k) ∙ ap (λ (m : ℕ). bit_at m (i - suc k)) half))

-- a number whose bits are reversed has each bit at the place counted from the other end
pub bit_at-reverse_low : (k n front i : ℕ) → i < k
    → bit_at (reverse_bits_onto k n front) i ≡ bit_at n (k - 1 - i)
unfolding reverse_bits_onto
bit_at-reverse_low zero n front i within = absurd (omega arith)
bit_at-reverse_low (suc k) n front i within = elim (cases_lt i k) [
  | inl less ↦
      let place : suc (k - 1 - i) ≡ suc k - 1 - i = omega arith in
      bit_at-reverse_low k (n / 2) (front * 2 + n % 2) i less
      ∙ (sym (bit_at-suc n (k - 1 - i)) ∙ ap (bit_at n) place)
  | inr last ↦
      let none : i - k ≡ 0 = omega arith in
      let place : 0 ≡ suc k - 1 - i = omega arith in
      let odd : (front * 2 + n % 2) % 2 ≡ n % 2 = omega arith in
      bit_at-reverse_high k (n / 2) (front * 2 + n % 2) i last
      ∙ (ap (bit_at (front * 2 + n % 2)) none
      ∙ (bit_at_lowest (front * 2 + n % 2)
      ∙ (odd ∙ (sym (bit_at_lowest n) ∙ ap (bit_at n) place))))
]

-- the number of some bytes, the first the lowest
abbrev pub horner : List ℕ → ℕ
horner [] = 0
horner (byte ∷ bytes) = horner bytes * 2 ^ 8 + byte

-- the bits of such a number are those of its bytes
bit_at-horner : (bytes : List ℕ) → ((k : ℕ) → get_or bytes k 0 < 2 ^ 8) → (i : ℕ)
    → bit_at (horner bytes) i ≡ bit_at (get_or bytes (i / 8) 0) (i % 8)
bit_at-horner [] small i = bit_at-zero i ∙ sym (bit_at-zero (i % 8))
bit_at-horner (byte ∷ bytes) small i = elim (cases_lt i 8) [
  | inl low ↦
      let first : 0 ≡ i / 8 = omega arith in
      let place : i ≡ i % 8 = omega arith in
      bit_at_cat_low (horner bytes) 8 byte i low
      ∙ (ap (bit_at byte) place
      ∙ ap (λ (k : ℕ). bit_at (get_or (byte ∷ bytes) k 0) (i % 8)) first)
  | inr high ↦
      let next : suc ((i - 8) / 8) ≡ i / 8 = omega arith in
      let place : (i - 8) % 8 ≡ i % 8 = omega arith in
      bit_at_cat_high (horner bytes) 8 byte i (small 0) high
      ∙ (bit_at-horner bytes (λ k. small (suc k)) (i - 8)
      ∙ (ap (bit_at (get_or bytes ((i - 8) / 8) 0)) place
      ∙ ap (λ (k : ℕ). bit_at (get_or (byte ∷ bytes) k 0) (i % 8)) next))
]

-- what holds of each of eight numbers
pub each_of_eight : (P : ℕ → Type 0) → P 0 → P 1 → P 2 → P 3 → P 4 → P 5 → P 6 → P 7 → (k : ℕ)
    → k < 8 → P k
each_of_eight P a b c d e f g h zero within = a
each_of_eight P a b c d e f g h (suc zero) within = b
each_of_eight P a b c d e f g h (suc (suc zero)) within = c
each_of_eight P a b c d e f g h (suc (suc (suc zero))) within = d
each_of_eight P a b c d e f g h (suc (suc (suc (suc zero)))) within = e
each_of_eight P a b c d e f g h (suc (suc (suc (suc (suc zero))))) within = f
each_of_eight P a b c d e f g h (suc (suc (suc (suc (suc (suc zero)))))) within = g
each_of_eight P a b c d e f g h (suc (suc (suc (suc (suc (suc (suc zero))))))) within = h
each_of_eight P a b c d e f g h (suc (suc (suc (suc (suc (suc (suc (suc k)))))))) within =
    absurd (omega arith)

-- eight bytes are small
small_of_eight : (a b c d e f g h : ℕ) → a < 256 → b < 256 → c < 256 → d < 256 → e < 256
    → f < 256 → g < 256 → h < 256 → (k : ℕ)
    → get_or (a ∷ b ∷ c ∷ d ∷ e ∷ f ∷ g ∷ h ∷ []) k 0 < 2 ^ 8
small_of_eight a b c d e f g h sa sb sc sd se sf sg sh k = grind (arith, nat_tests, common_steps)

-- eight bytes from a place of a list on
abbrev eight_of : List ℕ → ℕ → List ℕ
eight_of bytes start =
    get_or bytes start 0 ∷ get_or bytes (start + 1) 0 ∷ get_or bytes (start + 2) 0
    ∷ get_or bytes (start + 3) 0 ∷ get_or bytes (start + 4) 0 ∷ get_or bytes (start + 5) 0
    ∷ get_or bytes (start + 6) 0 ∷ get_or bytes (start + 7) 0 ∷ []

-- the word of eight bytes has the bits of each of them
pub bit_at-word : (bytes : List ℕ) (start word : ℕ) → ((k : ℕ) → get_or bytes k 0 < 256)
    → word ≡ horner (eight_of bytes start) → (i : ℕ) → i < 64
    → bit_at word i ≡ bit_at (get_or bytes (start + i / 8) 0) (i % 8)
bit_at-word bytes start word small is i within =
    let first : start ≡ start + 0 = omega arith in
    let few : (k : ℕ) → get_or (eight_of bytes start) k 0 < 2 ^ 8 =
    small_of_eight (get_or bytes start 0) (get_or bytes (start + 1) 0) (get_or bytes (start + 2) 0)
    (get_or bytes (start + 3) 0) (get_or bytes (start + 4) 0) (get_or bytes (start + 5) 0)
    (get_or bytes (start + 6) 0) (get_or bytes (start + 7) 0) (small start) (small (start + 1))
    (small (start + 2)) (small (start + 3)) (small (start + 4)) (small (start + 5))
    (small (start + 6)) (small (start + 7)) in
    ap (λ (w : ℕ). bit_at w i) is
    ∙ (bit_at-horner (eight_of bytes start) few i
    ∙ ap (λ (n : ℕ). bit_at n (i % 8))
    (each_of_eight (λ k. get_or (eight_of bytes start) k 0 ≡ get_or bytes (start + k) 0)
    (ap (λ (n : ℕ). get_or bytes n 0) first) refl refl refl refl refl refl refl (i / 8)
    (omega arith)))

-- the bitmap whose cells pass the test, as far as its first words, row by row from the top
abbrev pub drawn_words : ℕ → ℕ → (ℕ → ℕ → Bool) → ℕ → Cells
drawn_words width height test n =
    cells_where width height (λ a b. ltb (b * words_across width + a / 64) n && test a b)

-- a place of a row is one of all rows' places
pub place-below_row : (across height k b : ℕ) → k < across → b < height
    → b * across + k < height * across
place-below_row across height k b column row = grind (arith, nat_tests, common_steps)

-- a word of a cell is one of the bitmap's
place-below_words : (width height a b : ℕ) → a < width → b < height
    → b * words_across width + a / 64 < height * words_across width
place-below_words width height a b ha hb =
    place-below_row (words_across width) height (a / 64) b (omega arith) hb

-- all cells are drawn
pub drawn_words-all : (width height n : ℕ) (test : ℕ → ℕ → Bool) → n ≡ height * words_across width
    → drawn_words width height test n ≡ cells_where width height test
drawn_words-all width height n test all =
    cells_where-same width height (λ a b. ltb (b * words_across width + a / 64) n && test a b) test
    (λ a b ha hb.
    let below : b * words_across width + a / 64 < height * words_across width =
    place-below_words width height a b ha hb in
    let yes : ltb (b * words_across width + a / 64) n ≡ true =
    lt-ltb (b * words_across width + a / 64) n (omega (arith, below, all)) in
    rw yes refl)

-- a bit of a word that is read is a pixel of the raster
pub raw_word-pixel : (across : ℕ) (raster : List ℕ) (y index start i word : ℕ)
    → start ≡ y * across + 8 * index
    → bit_at word i ≡ bit_at (get_or raster (start + i / 8) 0) (7 - i % 8)
    → (bit_at word i == 1) ≡ raw_pixel across raster (64 * index + i) y
raw_word-pixel across raster y index start i word start_is bit =
    grind (arith, nat_tests, common_steps)
