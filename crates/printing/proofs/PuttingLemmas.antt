-- Bytes that are put into a buffer one after another.
use Rattle.std.proofs.Common.{◌≡◌, ℕ, ◌+◌, ◌/◌, ◌%◌, ◌^◌, ◌≤◌, ◌<◌, List, [], ◌∷◌, ◌++◌, length, take}
use Rattle.std.proofs.Common.{ap, arith, refl, set, sym, ◌∙◌, append_assoc, length-append, lit<}
use Rattle.std.proofs.Math.Seq.{take-append-add, take-set-lt}
use Rattle.std.proofs.lemmas.List.{length-take-le, take-take}
use Rattle.std.specs.Fmt.{decimal}
use Rattle.std.proofs.lemmas.Fmt.{length-decimal-le}
use Rattle.metric.specs.Digits.{two_digits}
use Rattle.metric.proofs.Decimals.{decimal_ten_thousands}
use Rattle.printing.specs.Putting.{Puts, four_digits}

-- a text that is put, and another that is put after it, are put as one text
pub Puts-more : (old middle new : List ℕ) (at mid end : ℕ) (first second : List ℕ)
    → Puts old at first middle mid → Puts middle mid second new end
    → Puts old at (first ++ second) new end
Puts-more old middle new at mid end first second one two = record {
  end_is = two.end_is
      ∙ (ap (λ n. n + length second) one.end_is ∙ rw (length-append first second) (omega arith));
  text = two.text ∙ (ap (λ t. t ++ second) one.text ∙ append_assoc (take at old) first second);
}

-- a text that is put is put with another first byte where that byte is written over its first
pub Puts-over : (old middle new : List ℕ) (at end byte other : ℕ) (others : List ℕ)
    → at ≤ length old → Puts old at (byte ∷ others) middle end → new ≡ set middle at other
    → Puts old at (other ∷ others) new end
Puts-over old middle new at end byte other others room put over =
    let long : length (take at old) ≡ at = length-take-le at old room in
    let within : at < end = omega (arith, put.end_is) in
    record {
      end_is = put.end_is;
      text = rw over (take-set-lt end middle at other within
          ∙ (ap (λ t. set t at other) put.text
          ∙ set-first (take at old) at byte other others long));
    }
  where
    set-first : (front : List ℕ) (place byte other : ℕ) (others : List ℕ) → length front ≡ place
        → set (front ++ byte ∷ others) place other ≡ front ++ other ∷ others
    set-first [] place byte other others long = rw (← long) refl
    set-first (x ∷ front) place byte other others long =
        rw (← long) (ap (λ t. x ∷ t) (set-first front (length front) byte other others refl))

-- where four bytes were put, the first of them, up to any count, are put
pub Puts-first : (old new four : List ℕ) (at count : ℕ) → count ≤ length four → at ≤ length old
    → take (at + length four) new ≡ take at old ++ four
    → Puts old at (take count four) new (at + count)
Puts-first old new four at count few room put =
    let long : length (take at old) ≡ at = length-take-le at old room in
    record {
      end_is = ap (λ n. at + n) (sym (length-take-le count four few));
      text =
          sym (take-take (at + count) (at + length four) new (omega arith))
          ∙ (ap (take (at + count)) put
          ∙ (ap (λ n. take (n + count) (take at old ++ four)) (sym long)
          ∙ take-append-add (take at old) four count));
    }

-- the digits of a number from 10,000 on are those of its ten thousands and four more
pub decimal_quads : (n : ℕ) → 10000 ≤ n → n < 2 ^ 64
    → decimal n ≡ decimal (n / 10000) ++ four_digits (n % 10000)
decimal_quads n large fits =
    let ones : n % 10000 % 100 ≡ n % 100 = omega arith in
    decimal_ten_thousands n large fits
    ∙ (append_assoc (decimal (n / 10000)) (two_digits (n % 10000 / 100)) (two_digits (n % 100))
    ∙ ap (λ k. decimal (n / 10000) ++ (two_digits (n % 10000 / 100) ++ two_digits k)) (sym ones))

-- a number below 100,000,000 has eight digits at most
pub length-decimal_8 : (n : ℕ) → n < 100000000 → length (decimal n) ≤ 8
length-decimal_8 n fits = length-decimal-le 8 n (lit< tt) (omega arith) (omega arith)
