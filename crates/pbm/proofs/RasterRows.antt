-- A row of a bitmap that is being read.
use Rattle.std.proofs.Common.{◌≡◌, ℕ, ◌+◌, ◌*◌, ◌/◌, ◌%◌, ◌<◌, ◌≤◌, ◌==◌, ◌&&◌, Bool, false, cond}
use Rattle.std.proofs.Common.{eqb, ltb, List, get_or, sym, ap, ◌∙◌, inl, inr, arith, refl}
use Rattle.std.specs.Int.{bit_at}
use Rattle.std.proofs.lemmas.Bool.{cases_lt, eq-eqb, eqb-true, false_from_ne_true, le-ltb, lt-ltb}
use Rattle.std.proofs.Math.Nat.{mul-le-mul_left}
use Rattle.bits.specs.Cells.{has}
use Rattle.bits.specs.TileWords.{is_bit}
use Rattle.bits.specs.Words.{words_across}
use Rattle.bits.specs.Writes.{with_row}
use Rattle.bits.proofs.CellsLemmas.{has-cells_where, cells_where-same}
use Rattle.pbm.proofs.Words.{drawn_words, place-below_row}

-- a further row is drawn
pub drawn_row-more : (width height y : ℕ) (words : List ℕ) (test : ℕ → ℕ → Bool)
    → ((k i : ℕ) → k < words_across width → i < 64 → 64 * k + i < width
    → (bit_at (get_or words k 0) i == 1) ≡ test (64 * k + i) y)
    → with_row (drawn_words width height test (y * words_across width)) y words
    ≡ drawn_words width height test ((y + 1) * words_across width)
drawn_row-more width height y words test bits =
    let across = words_across width in
    cells_where-same width height
    (λ a b. cond (eqb b y) (is_bit (get_or words (a / 64) 0) (a % 64))
    (has (drawn_words width height test (y * across)) a b))
    (λ a b. ltb (b * across + a / 64) ((y + 1) * across) && test a b) (λ a b ha hb.
    let before : has (drawn_words width height test (y * across)) a b
    ≡ (ltb (b * across + a / 64) (y * across) && test a b) =
    has-cells_where width height (λ a b. ltb (b * across + a / 64) (y * across) && test a b) a b
    ha hb in
    let column : a / 64 < across = omega arith in
    elim (cases_lt b y) [
      | inl above ↦
          let apart : eqb b y ≡ false = false_from_ne_true (eqb b y)
          (λ same. let row : b ≡ y = eqb-true b y same in omega arith) in
          let old : b * across + a / 64 < y * across =
          place-below_row across y (a / 64) b column above in
          let now : b * across + a / 64 < (y + 1) * across =
          place-below_row across (y + 1) (a / 64) b column (omega arith) in
          rw (apart, lt-ltb (b * across + a / 64) ((y + 1) * across) now)
          (before ∙ rw (lt-ltb (b * across + a / 64) (y * across) old) refl)
      | inr from ↦ elim (cases_lt y b) [
        | inl under ↦
            let apart : eqb b y ≡ false = false_from_ne_true (eqb b y)
            (λ same. let row : b ≡ y = eqb-true b y same in omega arith) in
            let most : across * (y + 1) ≤ across * b = mul-le-mul_left across (omega arith) in
            let old : y * across ≤ b * across + a / 64 = omega (arith, most) in
            let now : (y + 1) * across ≤ b * across + a / 64 = omega (arith, most) in
            rw (apart, le-ltb (b * across + a / 64) ((y + 1) * across) now)
            (before ∙ rw (le-ltb (b * across + a / 64) (y * across) old) refl)
        | inr here ↦
            let row : b ≡ y = omega arith in
            let now : b * across + a / 64 < (y + 1) * across =
            place-below_row across (y + 1) (a / 64) b column (omega arith) in
            let cell : 64 * (a / 64) + a % 64 ≡ a = omega arith in
            rw (eq-eqb b y row, lt-ltb (b * across + a / 64) ((y + 1) * across) now)
            (bits (a / 64) (a % 64) column (omega arith) (omega arith)
            ∙ (ap (λ (n : ℕ). test n y) cell ∙ ap (test a) (sym row)))
      ]
    ])
