-- Gaps: what is read is a gap, and a gap is read.
use Rattle.std.proofs.Common.{◌≡◌, ℕ, Bool, true, false, eqb, List, [], ◌∷◌, ◌++◌, Ok, refl, ap}
use Rattle.std.proofs.Common.{arith}
use Rattle.std.specs.Prelude.{not}
use Rattle.pbm.specs.Faults.{space, filling, gap}
use Rattle.pbm.specs.Image.{is_whitespace, is_line_end, fills, IsGap}
use Rattle.pbm.proofs.Steps.{bind_ok, IsOfBytes, bind-of_bytes}
use Rattle.std.proofs.lemmas.Grind.{common_steps}
use Rattle.std.proofs.lemmas.Bool.Decides.{nat_tests}

-- one whitespace byte was read from the bytes
pub record SpaceRead (bytes rest : List ℕ) : Type 0 where
  pub first : ℕ
  pub split : bytes ≡ first ∷ rest
  pub first_is : is_whitespace first ≡ true

-- a byte that is read as whitespace is whitespace
pub space-read : (bytes rest : List ℕ) → space bytes ≡ Ok rest → SpaceRead bytes rest
space-read [] rest e = absurd cc
space-read (byte ∷ others) rest e = grind (arith, nat_tests, common_steps)

-- the rest of a gap, in a comment or not, was read from the bytes
record FillingRead (in_comment : Bool) (bytes rest : List ℕ) : Type 0 where
  text : List ℕ
  split : bytes ≡ text ++ rest
  all_fills : fills in_comment text ≡ true

-- a further byte was read
FillingRead-cons : (byte : ℕ) (others rest : List ℕ) (in_comment after : Bool)
    → ((text : List ℕ) → fills after text ≡ true → fills in_comment (byte ∷ text) ≡ true)
    → FillingRead after others rest → FillingRead in_comment (byte ∷ others) rest
FillingRead-cons byte others rest in_comment after more r = grind (arith, nat_tests, common_steps)

-- the rest of a gap that is read fills a gap
filling-read : (in_comment : Bool) (bytes rest : List ℕ) → filling in_comment bytes ≡ Ok rest
    → FillingRead in_comment bytes rest
unfolding filling fills
filling-read true [] rest e = absurd cc
filling-read false [] rest e = absurd cc
filling-read true (byte ∷ others) rest e =
    let read = filling-read (not (is_line_end byte)) others rest e in
    grind (arith, nat_tests, common_steps, FillingRead-cons, read)
filling-read false (byte ∷ others) rest e =
    let spaces = filling-read false others rest in
    let comment = filling-read true others rest in
    grind (arith, nat_tests, common_steps, FillingRead-cons, spaces, comment)

-- a gap was read from the bytes
pub record GapRead (bytes rest : List ℕ) : Type 0 where
  pub text : List ℕ
  pub split : bytes ≡ text ++ rest
  pub is_gap : IsGap text

-- whitespace and the rest of a gap are a gap
pub GapRead-from : (byte : ℕ) (others rest : List ℕ) → is_whitespace byte ≡ true
    → filling false others ≡ Ok rest → GapRead (byte ∷ others) rest
GapRead-from byte others rest is e =
    let r = filling-read false others rest e in
    record {
      text = byte ∷ r.text;
      split = ap (λ (t : List ℕ). byte ∷ t) r.split;
      is_gap = record {
        first = byte;
        others = r.text;
        is_text = refl;
        first_is = is;
        others_are = r.all_fills;
      };
    }

-- a gap that is read is a gap
pub gap-read : (bytes rest : List ℕ) → gap bytes ≡ Ok rest → GapRead bytes rest
unfolding gap
gap-read bytes rest e = grind (arith, nat_tests, common_steps, GapRead-from, bind_ok, space-read)

-- a byte at which a gap ends
pub record EndsGap (byte : ℕ) : Type 0 where
  pub no_whitespace : is_whitespace byte ≡ false
  pub no_comment : eqb byte 35 ≡ false

-- whitespace is read
pub space-again : (byte : ℕ) (rest : List ℕ) → is_whitespace byte ≡ true
    → space (byte ∷ rest) ≡ Ok rest
space-again byte rest is = rw is refl

-- what fills a gap is read, up to a byte that ends it
pub filling-again : (in_comment : Bool) (text : List ℕ) (byte : ℕ) (rest : List ℕ)
    → fills in_comment text ≡ true → EndsGap byte
    → filling in_comment (text ++ byte ∷ rest) ≡ Ok (byte ∷ rest)
unfolding filling fills
filling-again true [] byte rest is end = absurd cc
filling-again false [] byte rest is end = rw (end.no_whitespace, end.no_comment) refl
filling-again true (first ∷ others) byte rest is end =
    filling-again (not (is_line_end first)) others byte rest is end
filling-again false (first ∷ others) byte rest is end =
    let spaces = filling-again false others byte rest in
    let comment = filling-again true others byte rest in
    grind (arith, nat_tests, common_steps, spaces, comment)

-- a gap is read, up to a byte that ends it
pub gap-again : (text : List ℕ) (byte : ℕ) (rest : List ℕ) → IsGap text → EndsGap byte
    → gap (text ++ byte ∷ rest) ≡ Ok (byte ∷ rest)
unfolding gap
gap-again text byte rest is end = grind (arith, nat_tests, common_steps, filling-again)

-- after what fills a gap more may fill it
pub fills-append : (in_comment : Bool) (text more : List ℕ) → fills in_comment text ≡ true
    → fills in_comment (text ++ more) ≡ fills false more
unfolding fills
fills-append true [] more is = absurd cc
fills-append false [] more is = refl
fills-append true (first ∷ others) more is = fills-append (not (is_line_end first)) others more is
fills-append false (first ∷ others) more is =
    let spaces = fills-append false others more in
    let comment = fills-append true others more in
    grind (arith, nat_tests, common_steps, spaces, comment)

-- what is a gap fills a gap
pub fills-gap : (text : List ℕ) → IsGap text → fills false text ≡ true
unfolding fills
fills-gap text is = grind (arith, nat_tests, common_steps)

-- no missing whitespace reports out of memory
pub space-of_bytes : (bytes : List ℕ) → IsOfBytes (space bytes)
space-of_bytes [] = λ e. cc
space-of_bytes (byte ∷ rest) = grind (arith, nat_tests, common_steps)

-- no rest of a gap reports out of memory
filling-of_bytes : (in_comment : Bool) (bytes : List ℕ) → IsOfBytes (filling in_comment bytes)
unfolding filling
filling-of_bytes true [] = λ e. cc
filling-of_bytes false [] = λ e. cc
filling-of_bytes true (byte ∷ rest) = filling-of_bytes (not (is_line_end byte)) rest
filling-of_bytes false (byte ∷ rest) =
    grind (arith, nat_tests, common_steps, filling-of_bytes false rest, filling-of_bytes true rest)

-- no gap reports out of memory
pub gap-of_bytes : (bytes : List ℕ) → IsOfBytes (gap bytes)
unfolding gap
gap-of_bytes bytes =
    bind-of_bytes (space bytes) (filling false) (space-of_bytes bytes) (filling-of_bytes false)
