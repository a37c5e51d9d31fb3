-- Numbers at the front of a line that digits spell up to a blank or the end.
use Rattle.std.proofs.Common.{◌≡◌, ℕ, suc, ◌+◌, ◌-◌, ◌*◌, ◌^◌, ◌≤◌, ◌<◌, Bool, true, false, eqb}
use Rattle.std.proofs.Common.{List, [], ◌∷◌, ◌++◌, length, take, drop, get_or, Some, None, Option}
use Rattle.std.proofs.Common.{All, refl, sym, ap, subst, arith, drop-cons}
use Rattle.std.specs.Prelude.{option_map}
use Rattle.std.specs.List.{list_all}
use Rattle.std.proofs.Math.Nat.{pow-le-pow_right}
use Rattle.std.proofs.lemmas.Bool.{and_parts}
use Rattle.std.proofs.lemmas.List.{take_all, take_more, take_rest, length-take-le, take-append-drop}
use Rattle.std.proofs.lemmas.List.Elements.{All-cons, All-nil}
use Rattle.std.proofs.lemmas.List.Folds.{list_all-append}
use Rattle.std.proofs.lemmas.List.Splits.{slice_split_none, slice_split_at}
use Rattle.metric.specs.Digits.{is_digit, value_from}
use Rattle.metric.proofs.Decimals.{value_from-push}
use Rattle.words.specs.Numbers.{first_of, coordinate, number, points, cell_of}
use Rattle.words.specs.Words.{words}
use Rattle.std.proofs.lemmas.Bool.Decides.{nat_tests}
use Rattle.std.proofs.lemmas.Grind.{common_steps}

-- a byte is a blank
abbrev is_blank : ℕ → Bool
is_blank byte = eqb byte 32

-- a digit is no blank
digit-plain : (byte : ℕ) → is_digit byte ≡ true → is_blank byte ≡ false
digit-plain byte is = grind (arith, nat_tests)

-- a digit has a value below ten
pub digit-below : (byte : ℕ) → is_digit byte ≡ true → byte - 48 < 10
digit-below byte is = grind (arith, nat_tests)

-- digits have no blank
digits-plain : (word : List ℕ) → list_all is_digit word ≡ true
    → All (λ byte. is_blank byte ≡ false) word
digits-plain [] is = All-nil (λ byte. is_blank byte ≡ false)
digits-plain (byte ∷ word) is =
    let parts = and_parts (is_digit byte) (list_all is_digit word) is in
    All-cons (λ byte. is_blank byte ≡ false) byte word (digit-plain byte parts.0)
    (digits-plain word parts.1)

-- a further digit at the front is one of the digits there
pub front-digits : (bytes : List ℕ) (count : ℕ) → count < length bytes
    → is_digit (get_or bytes count 0) ≡ true → list_all is_digit (take count bytes) ≡ true
    → list_all is_digit (take (count + 1) bytes) ≡ true
front-digits bytes count within next so_far =
    rw (take_more bytes count 0 within, list_all-append, so_far, next) refl

-- a further digit at the front makes ten times the value and the digit
pub front-value : (bytes : List ℕ) (count value : ℕ) → count < length bytes
    → value ≡ value_from 0 (take count bytes)
    → 10 * value + (get_or bytes count 0 - 48) ≡ value_from 0 (take (count + 1) bytes)
front-value bytes count value within so_far =
    rw (so_far, take_more bytes count 0 within, value_from-push) refl

-- a further digit fits a further place
pub front-small : (value count digit : ℕ) → value < 10 ^ count → digit < 10
    → 10 * value + digit < 10 ^ (count + 1)
front-small value count digit small few = grind (arith, common_steps)

-- nine digits fit 32 bits
pub front-fits : (value count digit : ℕ) → value < 10 ^ count → count < 9 → digit < 10
    → 10 * value + digit < 2 ^ 32
front-fits value count digit small short few =
    let at_most : count ≤ 8 = omega (arith, short) in
    let most : 10 ^ count ≤ 10 ^ 8 = pow-le-pow_right (omega arith) at_most in
    omega (arith, most, small, few)

-- one to nine digits are a number
short-number : (word : List ℕ) (value : ℕ) → 0 < length word → length word ≤ 9
    → list_all is_digit word ≡ true → value ≡ value_from 0 word → value < 2 ^ 32
    → number word ≡ Some value
unfolding number
short-number word value some few digits is small = grind (arith, nat_tests)

-- digits to the end of a line are its first number, and its last word
pub short-end : (bytes : List ℕ) (count value : ℕ) → 0 < count → count ≤ 9 → count ≡ length bytes
    → list_all is_digit (take count bytes) ≡ true → value ≡ value_from 0 (take count bytes)
    → value < 2 ^ 32 → first_of number (words bytes) ≡ Some (value, [])
unfolding words
short-end bytes count value some few all digits is small =
    let whole : take count bytes ≡ bytes = take_all count bytes (omega arith) in
    let plain = rw whole at digits in
    rw (
      slice_split_none is_blank bytes (digits-plain bytes plain),
      short-number bytes value (omega arith) (omega arith) plain (rw whole at is) small,
    ) refl

-- digits up to a blank are the first number of a line, and what stands after the blank is left
pub short-blank : (bytes : List ℕ) (count value : ℕ) → 0 < count → count ≤ 9
    → count < length bytes → get_or bytes count 0 ≡ 32
    → list_all is_digit (take count bytes) ≡ true → value ≡ value_from 0 (take count bytes)
    → value < 2 ^ 32 → first_of number (words bytes)
    ≡ Some (value, words (take (length bytes - (count + 1)) (drop (count + 1) bytes)))
unfolding words
short-blank bytes count value some few within blank digits is small =
    let word : List ℕ = take count bytes in
    let rest : List ℕ = drop (count + 1) bytes in
    let next : suc count ≡ count + 1 = omega arith in
    let joined : word ++ 32 ∷ rest ≡ bytes = rw (← blank, ← next, ← drop-cons bytes count 0 within)
    (take-append-drop count bytes) in
    let size : length word ≡ count = length-take-le count bytes (omega arith) in
    let parts = rw joined at (slice_split_at is_blank word 32 rest (digits-plain word digits) refl)
    in
    rw (
      parts,
      short-number word value (omega arith) (omega arith) digits is small,
      take_rest bytes (count + 1),
    ) refl

-- where a number and what is left were found, the first word spells it and the others are left
first-is : (told : Option ℕ) (ws after : List (List ℕ)) (x : ℕ)
    → option_map {U = ℕ × List (List ℕ)} (λ value. (value, ws)) told ≡ Some (x, after)
    → (told ≡ Some x) × (ws ≡ after)
first-is None ws after x e = absurd cc
first-is (Some value) ws after x e =
    let both : (value, ws) ≡ (x, after) = cc in
    (ap (λ (p : ℕ × List (List ℕ)). Some p.0) both, ap (λ (p : ℕ × List (List ℕ)). p.1) both)

-- where two numbers come first, a point does
point-so : (ws after others : List (List ℕ)) (x y : ℕ)
    → first_of number ws ≡ Some (x, after) → first_of number after ≡ Some (y, others)
    → points ws ≡ option_map (λ cells. cell_of x y ∷ cells) (points others)
unfolding points
point-so [] after others x y one two = absurd cc
point-so (a ∷ []) after others x y one two =
    let p = first-is (number a) [] after x one in
    let none : first_of number [] ≡ Some (y, others) =
    subst (λ (l : List (List ℕ)). first_of number l ≡ Some (y, others)) (sym p.1) two in
    absurd (cc)
point-so (a ∷ b ∷ ws) after others x y one two =
    let p = first-is (number a) (b ∷ ws) after x one in
    let q = first-is (number b) ws others y
    (subst (λ (l : List (List ℕ)). first_of number l ≡ Some (y, others)) (sym p.1) two) in
    rw (p.0, q.0) (ap (λ (l : List (List ℕ)). option_map (λ cells. cell_of x y ∷ cells) (points l))
    q.1)

-- where two numbers come first, the point of their coordinates does
pub point-cell : (ws after others : List (List ℕ)) (x y column row : ℕ)
    → column ≡ coordinate x → row ≡ coordinate y
    → first_of number ws ≡ Some (x, after) → first_of number after ≡ Some (y, others)
    → points ws ≡ option_map (λ cells. record { x = column; y = row } ∷ cells) (points others)
point-cell ws after others x y column row column_is row_is one two =
    rw (column_is, row_is) (point-so ws after others x y one two)
