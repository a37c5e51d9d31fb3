-- The bits of two numbers that are joined by a bitwise or, and the bits of a byte that is cut out
-- of a word.
use Rattle.std.proofs.Common.{◌≡◌, ℕ, ◌+◌, ◌-◌, ◌*◌, ◌/◌, ◌%◌, ◌^◌, ◌<◌, ◌≤◌, sym, ap, ◌∙◌, arith}
use Rattle.std.specs.Int.{bit_at}
use Rattle.std.specs.Int.RustNames.{bit_or}
use Rattle.std.proofs.lemmas.Nat.{div-add-mod', mod_below, pow_pos}
use Rattle.std.proofs.lemmas.Nat.Bits.{bit_at_and, bit_at-lt, bit_at-zero, bit_at_cat_high}
use Rattle.std.proofs.lemmas.Nat.Bits.{bit_at_ones, bit_at_or, same_from_bits}
use lib.Bits.{bit_and}

-- two numbers joined have each bit of the second one
pub joined_more : (new word i : ℕ) → bit_at word i ≤ bit_at (bit_or new word) i
joined_more new word i = rw (bit_at_or new word i) (omega arith)

-- two numbers joined have each bit of the first one
pub joined_before : (new word bit i : ℕ) → bit ≤ bit_at new i → bit ≤ bit_at (bit_or new word) i
joined_before new word bit i before = rw (bit_at_or new word i) (omega arith)

-- where the joined number is 0, each number that was joined to it is 0
pub joined_none : (word new : ℕ) → new ≡ 0 → ((i : ℕ) → bit_at word i ≤ bit_at new i) → word ≡ 0
joined_none word new none less = same_from_bits word 0 (λ i.
    let zero = bit_at-zero i in
    let less_here : bit_at word i ≤ bit_at 0 i = rw (← none) (less i) in
    rw zero (omega (arith, less_here, zero)))

-- each bit of a byte that is cut out of a word is the word's bit at that place
pub bit_of_part : (word part i : ℕ) → i < 8
    → bit_at (bit_and (word / 2 ^ (8 * part)) 255) i ≡ bit_at word (8 * part + i)
bit_of_part word part i within =
    let ones : bit_at 255 i ≡ 1 = bit_at_ones 8 i within in
    let bit = bit_at-lt (word / 2 ^ (8 * part)) i in
    let cut : bit_at (bit_and (word / 2 ^ (8 * part)) 255) i ≡ bit_at (word / 2 ^ (8 * part)) i =
    rw (bit_at_and (word / 2 ^ (8 * part)) 255 i, ones) (omega (arith, bit)) in
    let back : 8 * part + i - 8 * part ≡ i = omega arith in
    let whole : bit_at word (8 * part + i) ≡ bit_at (word / 2 ^ (8 * part)) i =
    ap (λ (n : ℕ). bit_at n (8 * part + i)) (sym (div-add-mod' word (2 ^ (8 * part))))
    ∙ (bit_at_cat_high (word / 2 ^ (8 * part)) (8 * part) (word % 2 ^ (8 * part)) (8 * part + i)
    (mod_below word (2 ^ (8 * part)) (pow_pos (8 * part))) (omega arith)
    ∙ ap (bit_at (word / 2 ^ (8 * part))) back) in
    cut ∙ sym whole
