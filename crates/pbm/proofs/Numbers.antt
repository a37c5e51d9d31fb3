-- Numbers: what is read is spelled so, and what is spelled so is read.
use Rattle.std.proofs.Common.{◌≡◌, ℕ, ◌+◌, ◌-◌, ◌*◌, ◌<◌, true, false, List, []}
use Rattle.std.proofs.Common.{◌∷◌, ◌++◌, Ok, Err, refl, sym, ap, ◌∙◌, inl, inr, arith}
use Rattle.std.specs.List.{list_all}
use Rattle.std.proofs.lemmas.Bool.{lt-ltb, le-ltb, ne_eqb, and_from}
use Rattle.metric.specs.declared.fault.PbmFault.TheVariants.{BadNumber, TooLarge}
use Rattle.bits.specs.Cells.{IsSide}
use Rattle.pbm.specs.Faults.{side, digits, number_and_rest}
use Rattle.metric.specs.Digits.{is_digit, value_from}
use Rattle.pbm.specs.Image.{IsNumber}
use Rattle.pbm.proofs.Steps.{chosen, IsOfBytes, cond-of_bytes}
use Rattle.std.proofs.lemmas.Grind.{common_steps}
use Rattle.std.proofs.lemmas.Bool.Decides.{nat_tests}

-- a value over the longest side is refused
side-over : (value : ℕ) (rest : List ℕ) → 4096 < value → side value rest ≡ Err TooLarge
side-over value rest over = rw (ne_eqb value 0 (λ e. omega arith), lt-ltb 4096 value over) refl

-- two values over the longest side are refused alike, whatever digits follow
digits-over : (a b : ℕ) (bytes : List ℕ) → 4096 < a → 4096 < b → digits a bytes ≡ digits b bytes
unfolding digits
digits-over a b [] p q = side-over a [] p ∙ sym (side-over b [] q)
digits-over a b (byte ∷ rest) p q =
    let others = digits-over (10 * a + (byte - 48)) (10 * b + (byte - 48)) rest in
    grind (arith, nat_tests, common_steps, others)

-- a digit after a value over the longest side is skipped
pub digits-pass : (value byte : ℕ) (bytes rest : List ℕ) → bytes ≡ byte ∷ rest
    → is_digit byte ≡ true → 4096 < value → digits value bytes ≡ digits value rest
unfolding digits
digits-pass value byte bytes rest split is over =
    grind (arith, nat_tests, common_steps, digits-over)

-- digits were read from the bytes
record DigitsRead (so_far : ℕ) (bytes : List ℕ) (found : ℕ × List ℕ) : Type 0 where
  text : List ℕ
  split : bytes ≡ text ++ found.1
  all_are : list_all is_digit text ≡ true
  value_is : value_from so_far text ≡ found.0
  is_side : IsSide found.0

-- where digits end at once, the side is accepted as it is
digits-ended : (so_far : ℕ) (bytes : List ℕ) (found : ℕ × List ℕ) → side so_far bytes ≡ Ok found
    → DigitsRead so_far bytes found
unfolding value_from
digits-ended so_far bytes found e = grind (arith, nat_tests, common_steps)

-- digits that are read are spelled so
digits-read : (so_far : ℕ) (bytes : List ℕ) (found : ℕ × List ℕ) → digits so_far bytes ≡ Ok found
    → DigitsRead so_far bytes found
unfolding digits value_from
digits-read so_far [] found e = digits-ended so_far [] found e
digits-read so_far (byte ∷ rest) found e =
    elim (chosen (is_digit byte) (digits (10 * so_far + (byte - 48)) rest)
    (side so_far (byte ∷ rest)) (Ok found) e) [
      | inl more ↦
          let r = digits-read (10 * so_far + (byte - 48)) rest found more.1 in
          record {
            text = byte ∷ r.text;
            split = ap (λ (t : List ℕ). byte ∷ t) r.split;
            all_are = and_from (is_digit byte) (list_all is_digit r.text) more.0 r.all_are;
            value_is = r.value_is;
            is_side = r.is_side;
          }
      | inr end ↦ digits-ended so_far (byte ∷ rest) found end.1
    ]

-- a number was read from the bytes
pub record NumberRead (bytes : List ℕ) (found : ℕ × List ℕ) : Type 0 where
  pub text : List ℕ
  pub split : bytes ≡ text ++ found.1
  pub is_number : IsNumber text found.0
  pub is_side : IsSide found.0

-- a number that is read is spelled so
pub number-read : (bytes : List ℕ) (found : ℕ × List ℕ) → number_and_rest bytes ≡ Ok found
    → NumberRead bytes found
unfolding number_and_rest
number-read [] found e = absurd cc
number-read (byte ∷ rest) found e =
    elim (chosen (is_digit byte) (digits (byte - 48) rest) (Err BadNumber) (Ok found) e) [
      | inl more ↦
          let r = digits-read (byte - 48) rest found more.1 in
          record {
            text = byte ∷ r.text;
            split = ap (λ (t : List ℕ). byte ∷ t) r.split;
            is_number = record {
              first = byte;
              others = r.text;
              is_text = refl;
              first_is = more.0;
              others_are = r.all_are;
              value_is = r.value_is;
            };
            is_side = r.is_side;
          }
      | inr end ↦ absurd (let no = end.1 in cc)
    ]

-- a side that is long enough and not too long is accepted
side-again : (value : ℕ) (rest : List ℕ) → IsSide value → side value rest ≡ Ok (value, rest)
side-again value rest is =
    rw (ne_eqb value 0 (λ e. omega (arith, is.some)), le-ltb 4096 value is.few) refl

-- digits that are spelled so are read, up to a byte that is none
digits-again : (so_far : ℕ) (text : List ℕ) (byte : ℕ) (rest : List ℕ)
    → list_all is_digit text ≡ true → is_digit byte ≡ false → IsSide (value_from so_far text)
    → digits so_far (text ++ byte ∷ rest) ≡ Ok (value_from so_far text, byte ∷ rest)
unfolding digits value_from
digits-again so_far [] byte rest all end is = rw end (side-again so_far (byte ∷ rest) is)
digits-again so_far (digit ∷ others) byte rest all end is =
    let again = digits-again (10 * so_far + (digit - 48)) others byte rest in
    grind (arith, nat_tests, common_steps, again)

-- a number that is spelled so is read, up to a byte that is no digit
pub number-again : (text : List ℕ) (value : ℕ) (byte : ℕ) (rest : List ℕ) → IsNumber text value
    → is_digit byte ≡ false → IsSide value
    → number_and_rest (text ++ byte ∷ rest) ≡ Ok (value, byte ∷ rest)
unfolding number_and_rest
number-again text value byte rest is end side_is =
    grind (arith, nat_tests, common_steps, digits-again)

-- no side reports out of memory
side-of_bytes : (value : ℕ) (rest : List ℕ) → IsOfBytes (side value rest)
side-of_bytes value rest = grind (arith, nat_tests, common_steps)

-- no digits report out of memory
digits-of_bytes : (so_far : ℕ) (bytes : List ℕ) → IsOfBytes (digits so_far bytes)
unfolding digits
digits-of_bytes so_far [] = side-of_bytes so_far []
digits-of_bytes so_far (byte ∷ rest) =
    grind (arith, nat_tests, common_steps, digits-of_bytes (10 * so_far + (byte - 48)) rest)

-- no number reports out of memory
pub number-of_bytes : (bytes : List ℕ) → IsOfBytes (number_and_rest bytes)
unfolding number_and_rest
number-of_bytes [] = λ e. cc
number-of_bytes (byte ∷ rest) =
    grind (arith, nat_tests, common_steps, cond-of_bytes, digits-of_bytes)
