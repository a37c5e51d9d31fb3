-- The numbers of a line are read one after another.
use Rattle.std.proofs.Common.{◌≡◌, ℕ, Bool, not, List, ◌∷◌, Option}
use Rattle.std.proofs.Common.{Some, None, arith}
use Rattle.std.specs.Prelude.{is_some, option_map}
use Rattle.std.specs.Bool.{then_some}
use Rattle.std.specs.Borrow.{Bor}
use Rattle.words.specs.Numbers.{number, join_number, numbers, only_number}
use Rattle.words.specs.Words.{words_left}
use Rattle.words.proofs.Splitting.{words-some}

-- a number is put before others, where there are any to be read
abbrev before : ℕ → Option (List ℕ) → Option (List ℕ)
before n others = option_map (λ ns. n ∷ ns) others

-- a number before others that are joined is not the only one
only-joined : (n : ℕ) (first : Option ℕ) (others : Option (List ℕ))
    → only_number (before n (join_number first others)) ≡ None
only-joined n first others = grind arith

-- a number is the only one if nothing is left of the line
pub is_only : (n : ℕ) (rest : List (List ℕ)) (left : Option (Bor (List ℕ))) (none : Bool)
    → is_some left ≡ not none → numbers rest ≡ before n (numbers (words_left left))
    → then_some none n ≡ only_number (numbers rest)
unfolding numbers
is_only n rest None none is e = grind arith
is_only n rest (Some bytes) none is e =
    let some = words-some bytes.now in
    rw (e, some.2) (grind (arith, only-joined n (number some.0) (numbers some.1)))
