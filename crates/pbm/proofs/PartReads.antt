-- How far some pixels were read as the bits of a number.
use Rattle.std.proofs.Common.{◌≡◌, ℕ, zero, suc, ◌+◌, ◌-◌, ◌^◌, ◌<◌, ◌≤◌, ◌==◌, ◌⊎◌, cond, Bool}
use Rattle.std.proofs.Common.{true, false, List, [], ◌∷◌, ◌++◌, length, get_or, drop, Result, Ok}
use Rattle.std.proofs.Common.{Err, refl, sym, ap, ◌∙◌, append_assoc, inl, inr, arith, length-append}
use Rattle.std.specs.Int.{bit_at}
use Rattle.std.proofs.lemmas.Bool.{cases_lt}
use Rattle.std.proofs.lemmas.Nat.Bits.{bit_at-lt}
use Rattle.std.proofs.lemmas.List.{get_or_push, get_or_append_left, get_or-append_right}
use Rattle.std.proofs.lemmas.List.{length_push}
use Rattle.metric.specs.declared.fault.PbmFault.{PbmFault}
use Rattle.pbm.specs.Faults.{◌>>=◌, filling, next_pixel, pixels}
use Rattle.pbm.specs.Image.{is_whitespace}
use Rattle.pbm.specs.Plain.{AreBitsRead, AreDigits, AreSomeRead, behind_space}
use Rattle.pbm.proofs.Rasters.{with_front, with_front-nil, pixels-more, pixels-fault, pixels-done}
use Rattle.pbm.proofs.Steps.{ok_is, bind_ok}
use mir.Val.{bool_byte}
use Rattle.std.proofs.Common.{rules}
use Rattle.std.proofs.lemmas.Grind.{common_steps}
use Rattle.std.proofs.lemmas.Bool.Decides.{nat_tests}

-- where two steps fail, the first one fails, or the second after the first one has not
bind_err : {A B : Type 0} (r : Result A PbmFault) (f : A → Result B PbmFault) (fault : PbmFault)
    → (r >>= f) ≡ Err fault → (r ≡ Err fault) ⊎ ((x : A) × (r ≡ Ok x) × (f x ≡ Err fault))
bind_err (Ok x) f fault e = inr (x, refl, e)
bind_err (Err d) f fault e = inl (let same : Err d ≡ Err fault = e in cc)

-- one pixel in front of those that were read before
front-cons : (pixel : Bool) (front : List Bool) (read : Result (List Bool × List ℕ) PbmFault)
    → (with_front front read >>= λ o. Ok (pixel ∷ o.0, o.1)) ≡ with_front (pixel ∷ front) read
front-cons pixel front (Ok x) = refl
front-cons pixel front (Err fault) = refl

-- pixels read before others
pub front-append : (front more : List Bool) (read : Result (List Bool × List ℕ) PbmFault)
    → with_front front (with_front more read) ≡ with_front (front ++ more) read
front-append front more (Ok x) = ap (λ (all : List Bool). Ok (all, x.1)) (simp append_assoc)
front-append front more (Err fault) = refl

-- pixels and then others are read as all of them at once
pub pixels-add : (m n : ℕ) (bytes : List ℕ) (front : List Bool) (rest : List ℕ)
    → pixels m bytes ≡ Ok (front, rest) → pixels (m + n) bytes ≡ with_front front (pixels n rest)
unfolding pixels
pixels-add zero n bytes front rest read = grind (arith, nat_tests, common_steps)
pixels-add (suc m) n bytes front rest read =
    let next : suc m + n ≡ suc (m + n) = omega arith in
    let one = bind_ok (next_pixel bytes)
    (λ first. pixels m first.1 >>= λ others. Ok (first.0 ∷ others.0, others.1))
    (front, rest) read in
    let first = one.0 in
    let others = bind_ok (pixels m first.1) (λ o. Ok (first.0 ∷ o.0, o.1)) (front, rest) one.2 in
    let is = ok_is (first.0 ∷ others.0.0, others.0.1) (front, rest) others.2 in
    rw (next, one.1, pixels-add m n first.1 others.0.0 others.0.1 others.1)
    (front-cons first.0 others.0.0 (pixels n others.0.1)
    ∙ ap (λ (p : List Bool × List ℕ). with_front p.0 (pixels n p.1)) is)

-- where this many pixels have a fault, so have more
pub pixels-add_fault : (m n : ℕ) (bytes : List ℕ) (fault : PbmFault) → pixels m bytes ≡ Err fault
    → pixels (m + n) bytes ≡ Err fault
unfolding pixels
pixels-add_fault zero n bytes fault read = absurd (cc)
pixels-add_fault (suc m) n bytes fault read =
    let next : suc m + n ≡ suc (m + n) = omega arith in
    elim (bind_err (next_pixel bytes)
    (λ first. pixels m first.1 >>= λ others. Ok (first.0 ∷ others.0, others.1)) fault read) [
      | inl here ↦ rw (next, here) refl
      | inr there ↦ elim (bind_err (pixels m there.0.1)
          (λ o. Ok (there.0.0 ∷ o.0, o.1)) fault there.2) [
            | inl behind ↦ rw (next, there.1, pixels-add_fault m n there.0.1 fault behind) refl
            | inr done ↦ absurd (let no = done.2 in cc)
          ]
    ]

-- the first k of some pixels were read, with these bits, and the others are read from the rest
pub record IsPartRead (count : ℕ) (bytes : List ℕ) (k : ℕ) (bit : ℕ → ℕ) (rest : List ℕ) :
    Type 0 where
  pub front : List Bool
  pub size : length front ≡ k
  pub others : pixels count bytes ≡ with_front front (pixels (count - k) rest)
  pub bits : (i : ℕ) → i < k → (bit i == 1) ≡ get_or front i false

-- no pixel was read
pub IsPartRead-none : (count : ℕ) (bytes : List ℕ) (bit : ℕ → ℕ)
    → IsPartRead count bytes 0 bit bytes
IsPartRead-none count bytes bit = grind (arith, nat_tests, common_steps, with_front-nil)

-- a further pixel was read
IsPartRead-more : (count : ℕ) (bytes : List ℕ) (k : ℕ) (bit next : ℕ → ℕ) (rest : List ℕ)
    (value : Bool) (after : List ℕ) → k < count → next_pixel rest ≡ Ok (value, after)
    → ((i : ℕ) → i < k → next i ≡ bit i) → (next k == 1) ≡ value → IsPartRead count bytes k bit rest
    → IsPartRead count bytes (k + 1) next after
IsPartRead-more count bytes k bit next rest value after few read kept here so_far = record {
  front = so_far.front ++ value ∷ [];
  size = length_push so_far.front value ∙ ap (λ (n : ℕ). n + 1) so_far.size;
  others = pixels-more so_far.front count k rest value after
      (pixels count bytes) few read so_far.others;
  bits = λ i before. elim (cases_lt i k) [
    | inl earlier ↦
        let size = so_far.size in
        ap (λ (n : ℕ). n == 1) (kept i earlier)
        ∙ (so_far.bits i earlier
        ∙ sym (get_or_append_left so_far.front (value ∷ []) false i (omega arith)))
    | inr last ↦
        let same : i ≡ k = omega arith in
        ap (λ (n : ℕ). next n == 1) same
        ∙ (here ∙ sym (get_or_push so_far.front value false i (so_far.size ∙ sym same)))
  ];
}

-- a pixel after those that were read before is one of the others
behind_front : (front more : List Bool) (i k : ℕ) → length front ≡ k → k ≤ i
    → get_or more (i - k) false ≡ get_or (front ++ more) i false
behind_front front more i k size later = sym (get_or-append_right front more k i false size later)

-- several pixels more were read
pub IsPartRead-add : (count : ℕ) (bytes : List ℕ) (k n : ℕ) (bit next : ℕ → ℕ) (rest : List ℕ)
    (number : ℕ) (after : List ℕ) → k + n ≤ count → AreBitsRead n rest number after
    → ((i : ℕ) → i < k → next i ≡ bit i) → ((i : ℕ) → i < n → next (k + i) ≡ bit_at number i)
    → IsPartRead count bytes k bit rest → IsPartRead count bytes (k + n) next after
IsPartRead-add count bytes k n bit next rest number after few read kept here so_far =
    let split : n + (count - (k + n)) ≡ count - k = omega arith in
    let behind : pixels (count - k) rest ≡ with_front read.all (pixels (count - (k + n)) after) =
    ap (λ (m : ℕ). pixels m rest) (sym split)
    ∙ pixels-add n (count - (k + n)) rest read.all after read.read in
    let size = so_far.size in
    let more = read.size in
    record {
      front = so_far.front ++ read.all;
      size = length-append so_far.front read.all
          ∙ (ap (λ (m : ℕ). m + length read.all) so_far.size ∙ ap (λ (m : ℕ). k + m) read.size);
      others = so_far.others
          ∙ (ap (λ (r : Result (List Bool × List ℕ) PbmFault). with_front so_far.front r) behind
          ∙ front-append so_far.front read.all (pixels (count - (k + n)) after));
      bits = λ i before. elim (cases_lt i k) [
        | inl earlier ↦ ap (λ (m : ℕ). m == 1) (kept i earlier)
            ∙ (so_far.bits i earlier
            ∙ sym (get_or_append_left so_far.front read.all false i (omega arith)))
        | inr later ↦
            let same : k + (i - k) ≡ i = omega arith in
            let value = here (i - k) (omega arith) in
            let bit_here : (next i == 1) ≡ get_or read.all (i - k) false =
            ap (λ (m : ℕ). m == 1) (ap next (sym same) ∙ value)
            ∙ read.bits (i - k) (omega arith) in
            bit_here ∙ behind_front so_far.front read.all i k size later
      ];
    }

-- a fault at the next pixel is that of all
pub IsPartRead-fault_one : (count : ℕ) (bytes : List ℕ) (k : ℕ) (bit : ℕ → ℕ) (rest : List ℕ)
    (fault : PbmFault) → k < count → next_pixel rest ≡ Err fault → IsPartRead count bytes k bit rest
    → pixels count bytes ≡ Err fault
IsPartRead-fault_one count bytes k bit rest fault few read so_far =
    pixels-fault so_far.front count k rest fault (pixels count bytes) few read so_far.others

-- where as many pixels were read as are wanted, all are read
pub IsPartRead-all : (count : ℕ) (bytes : List ℕ) (k : ℕ) (bit : ℕ → ℕ) (number : ℕ) (rest : List ℕ)
    → k ≡ count → ((i : ℕ) → i < count → bit_at number i ≡ bit i)
    → IsPartRead count bytes k bit rest → AreBitsRead count bytes number rest
IsPartRead-all count bytes k bit number rest all same so_far =
    grind (arith, nat_tests, common_steps, pixels-done, with_front)

-- a digit of a pixel is the next pixel
digit-pixel : (bit : ℕ) (rest : List ℕ) → bit < 2
    → next_pixel ((48 + bit) ∷ rest) ≡ Ok (bit == 1, rest)
unfolding next_pixel
digit-pixel zero rest small = refl
digit-pixel (suc zero) rest small = refl
digit-pixel (suc (suc n)) rest small = absurd (omega arith)

-- a digit of a pixel after a whitespace byte is the next pixel
digit-pixel_spaced : (byte bit : ℕ) (rest : List ℕ) → is_whitespace byte ≡ true → bit < 2
    → next_pixel (byte ∷ (48 + bit) ∷ rest) ≡ Ok (bit == 1, rest)
unfolding next_pixel filling
digit-pixel_spaced byte zero rest spaced small = rw spaced refl
digit-pixel_spaced byte (suc zero) rest spaced small = rw spaced refl
digit-pixel_spaced byte (suc (suc n)) rest spaced small = absurd (omega arith)

-- pixels of which the first is a digit are read after a whitespace byte as without it
pixels-spaced : (n byte bit : ℕ) (rest : List ℕ) → 0 < n → is_whitespace byte ≡ true → bit < 2
    → pixels n (byte ∷ (48 + bit) ∷ rest) ≡ pixels n ((48 + bit) ∷ rest)
unfolding pixels
pixels-spaced zero byte bit rest some spaced small = absurd (omega arith)
pixels-spaced (suc n) byte bit rest some spaced small =
    rw (digit-pixel_spaced byte bit rest spaced small, digit-pixel bit rest small) refl

-- some pixels, the first of them a digit, are read after a whitespace byte as without it
some-spaced : (most run count number digits byte : ℕ) (others rest : List ℕ)
    → is_whitespace byte ≡ true → 0 < run → AreDigits run others digits
    → AreSomeRead most others count number rest → AreSomeRead most (byte ∷ others) count number rest
some-spaced most run count number digits byte [] rest spaced some are read =
    absurd (let enough = are.enough in omega arith)
some-spaced most run count number digits byte (digit ∷ others) rest spaced some are read =
    let first : digit ≡ 48 + bit_at digits 0 = are.digits 0 some in
    let same : pixels count (byte ∷ digit ∷ others) ≡ pixels count (digit ∷ others) =
    rw first (pixels-spaced count byte (bit_at digits 0) others read.some spaced
    (bit_at-lt digits 0)) in
    record {
      some = read.some;
      few = read.few;
      read = record {
        all = read.read.all;
        size = read.read.size;
        read = same ∙ read.read.read;
        bits = read.read.bits;
      };
      below = read.below;
    }

-- some pixels are read as after a byte if that is whitespace, and otherwise with it
some-behind : (spaced : Bool) (most run count number digits byte : ℕ) (others rest : List ℕ)
    → is_whitespace byte ≡ spaced → 0 < run
    → AreDigits run (cond spaced others (byte ∷ others)) digits
    → AreSomeRead most (cond spaced others (byte ∷ others)) count number rest
    → AreSomeRead most (byte ∷ others) count number rest
some-behind true most run count number digits byte others rest spaced some are read =
    some-spaced most run count number digits byte others rest spaced some are read
some-behind false most run count number digits byte others rest spaced some are read = read

-- some pixels, the first of them a digit, are read as after a whitespace byte if there is one
pub AreSomeRead-behind : (most run count number digits : ℕ) (bytes rest : List ℕ) → 0 < run
    → AreDigits run (behind_space bytes) digits
    → AreSomeRead most (behind_space bytes) count number rest
    → AreSomeRead most bytes count number rest
AreSomeRead-behind most run count number digits [] rest some are read = read
AreSomeRead-behind most run count number digits (byte ∷ others) rest some are read =
    search (rules, arith, some-behind)

-- the bits of a first pixel and of others are those of all pixels
first_and_others : (n : ℕ) (bit : ℕ → ℕ) (all : List Bool)
    → ((i : ℕ) → i < n → (bit (suc i) == 1) ≡ get_or all i false) → (i : ℕ) → i < suc n
    → (bit i == 1) ≡ get_or ((bit 0 == 1) ∷ all) i false
first_and_others n bit all bits zero before = refl
first_and_others n bit all bits (suc i) before = bits i (omega arith)

-- digits of pixels are read one after another
digits-read : (n : ℕ) (bytes : List ℕ) (bit : ℕ → ℕ) → n ≤ length bytes
    → ((k : ℕ) → k < n → bit k < 2) → ((k : ℕ) → k < n → get_or bytes k 0 ≡ 48 + bit k)
    → (all : List Bool) × (length all ≡ n) × (pixels n bytes ≡ Ok (all, drop n bytes))
    × ((i : ℕ) → i < n → (bit i == 1) ≡ get_or all i false)
unfolding pixels
digits-read zero bytes bit enough small digits = ([], refl, refl, λ i before. absurd (omega arith))
digits-read (suc n) [] bit enough small digits = absurd (omega arith)
digits-read (suc n) (byte ∷ bytes) bit enough small digits =
    let none : 0 < suc n = omega arith in
    let first : byte ≡ 48 + bit 0 = digits 0 none in
    let next : next_pixel (byte ∷ bytes) ≡ Ok (bit 0 == 1, bytes) =
    rw first (digit-pixel (bit 0) bytes (small 0 none)) in
    let (all, size, read, bits) = digits-read n bytes (λ k. bit (suc k)) (omega arith)
    (λ k before. small (suc k) (omega arith)) (λ k before. digits (suc k) (omega arith)) in (
      (bit 0 == 1) ∷ all,
      ap (λ (m : ℕ). suc m) size,
      rw (next, read) refl,
      first_and_others n bit all bits,
    )

-- digits at the front are pixels
pub AreBitsRead-digits : (count : ℕ) (bytes : List ℕ) (number : ℕ) → AreDigits count bytes number
    → AreBitsRead count bytes number (drop count bytes)
AreBitsRead-digits count bytes number are =
    let (all, size, read, bits) = digits-read count bytes (bit_at number) are.enough
    (λ k before. bit_at-lt number k) are.digits in
    record { all = all; size = size; read = read; bits = bits }

-- the lowest bit of 1 is set, and that of 0 is not
lowest_is : (number : ℕ) (value : Bool) → number ≡ bool_byte value → (bit_at number 0 == 1) ≡ value
lowest_is number true is = rw is refl
lowest_is number false is = rw is refl

-- 1 and 0 are below 2
bit_below : (number : ℕ) (value : Bool) → number ≡ bool_byte value → number < 2 ^ 1
bit_below number true is = omega arith
bit_below number false is = omega arith

-- one pixel that is read is the lowest bit of a number
pub AreSomeRead-one : (most : ℕ) (bytes : List ℕ) (value : Bool) (number : ℕ) (rest : List ℕ)
    → 0 < most → next_pixel bytes ≡ Ok (value, rest) → number ≡ bool_byte value
    → AreSomeRead most bytes 1 number rest
AreSomeRead-one most bytes value number rest some read is = record {
  some = omega arith;
  few = omega arith;
  read = IsPartRead-all 1 bytes 1 (bit_at number) number rest refl (λ i within. refl)
      (IsPartRead-more 1 bytes 0 (bit_at number) (bit_at number) bytes value rest (omega arith) read
      (λ i before. absurd (omega arith)) (lowest_is number value is)
      (IsPartRead-none 1 bytes (bit_at number)));
  below = bit_below number value is;
}
