-- A number is written into a text a digit at a time.
use Rattle.std.proofs.Common.{◌≡◌, ℕ, zero, suc, ◌+◌, ◌-◌, ◌/◌, ◌%◌, ◌^◌, ◌<◌, ◌≤◌, List, [], ◌∷◌}
use Rattle.std.proofs.Common.{◌++◌, length, false, sym, ap, ◌∙◌, arith, append_assoc, lit<}
use Rattle.std.specs.Fmt.{decimal, digit_glyph}
use Rattle.std.proofs.lemmas.Fmt.{decimal_step, length-decimal-le}
use Rattle.std.proofs.lemmas.List.{append-nil}
use Rattle.lines.specs.Hex.{hex_digits}

-- a text to which no digit is added stays as it was
pub hex_digits-none : (text : List ℕ) (word : ℕ) → text ≡ text ++ hex_digits 0 word
unfolding hex_digits
hex_digits-none text word = sym (append-nil text)

-- the hexadecimal digits of a number are those of its sixteenth, and then its last digit
pub hex_digits-more : (old before new : List ℕ) (count word : ℕ) → 0 < count
    → before ≡ old ++ hex_digits (count - 1) (word / 16)
    → new ≡ before ++ digit_glyph false (word % 16) ∷ [] → new ≡ old ++ hex_digits count word
unfolding hex_digits
hex_digits-more old before new zero word some digits last = absurd (omega arith)
hex_digits-more old before new (suc count) word some digits last =
    let one : suc count - 1 ≡ count = omega arith in
    last
    ∙ (ap (λ t. t ++ digit_glyph false (word % 16) ∷ [])
    (digits ∙ ap (λ (k : ℕ). old ++ hex_digits k (word / 16)) one)
    ∙ append_assoc old (hex_digits count (word / 16)) (digit_glyph false (word % 16) ∷ []))

-- a number of 64 bits has twenty digits at most
pub length-decimal_64 : (n : ℕ) → n < 2 ^ 64 → length (decimal n) ≤ 20
length-decimal_64 n fits = length-decimal-le 20 n (lit< tt) (omega arith) fits

-- the tenth of a number of 64 bits has nineteen digits at most
pub length-decimal_tenth : (n : ℕ) → n < 2 ^ 64 → length (decimal (n / 10)) ≤ 19
length-decimal_tenth n fits = length-decimal-le 19 (n / 10) (lit< tt) (omega arith) (omega arith)

-- the digits of a number are those of its tenth, and then its last digit
pub decimal-more : (old before new : List ℕ) (n : ℕ) → 10 ≤ n → n < 2 ^ 64
    → before ≡ old ++ decimal (n / 10) → new ≡ before ++ (48 + n % 10) ∷ [] → new ≡ old ++ decimal n
decimal-more old before new n large fits digits last =
    last ∙ (ap (λ t. t ++ (48 + n % 10) ∷ []) digits
    ∙ (append_assoc old (decimal (n / 10)) ((48 + n % 10) ∷ [])
    ∙ ap (λ t. old ++ t) (sym (decimal_step n large fits))))
