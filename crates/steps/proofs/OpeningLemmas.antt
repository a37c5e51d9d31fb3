-- What the numbers of a first line open.
use Rattle.std.proofs.Common.{◌≡◌, ℕ, Bool, true, false, cond, codes, List, ◌∷◌, Option, None, refl}
use Rattle.std.proofs.Common.{inl, inr}
use Rattle.std.specs.Prelude.{bytes_eq, option_map, option_and_then}
use Rattle.words.specs.Numbers.{numbers, HasNoNumber}
use Rattle.words.specs.Words.{words}
use Rattle.steps.specs.declared.steps.opening.OpenLine.{OpenLine}
use Rattle.steps.specs.Opening.{opening_of, opening_told, setting_of}

-- without a number there is no setting
pub setting_of-none : (words : List (List ℕ)) → HasNoNumber words
    → None ≡ option_and_then setting_of (numbers words)
unfolding numbers
setting_of-none words (inl empty) = rw empty refl
setting_of-none words (inr none) = rw none refl

-- without a number nothing is opened
pub opening_of-none : (words : List (List ℕ)) → HasNoNumber words
    → None ≡ opening_of (numbers words)
unfolding numbers
opening_of-none words (inl empty) = rw empty refl
opening_of-none words (inr none) = rw none refl

-- nothing is opened by a line with one number alone
pub opening_of-one : (words others : List (List ℕ)) (width : ℕ)
    → numbers words ≡ option_map (λ ns. width ∷ ns) (numbers others) → HasNoNumber others
    → None ≡ opening_of (numbers words)
unfolding numbers
opening_of-one words others width first (inl empty) = rw (first, empty) refl
opening_of-one words others width first (inr none) = rw (first, none) refl

-- where an opening is none, it is none whatever a test before it says
none-chosen : (b : Bool) (opening : Option OpenLine) → None ≡ opening → None ≡ cond b opening None
none-chosen true opening none = none
none-chosen false opening none = refl

-- a line whose numbers open nothing tells no opening
pub opening_told-none : (line word : List ℕ) (others : List (List ℕ)) → words line ≡ word ∷ others
    → None ≡ opening_of (numbers others) → None ≡ opening_told line
unfolding opening_told
opening_told-none line word others split none =
    rw split (none-chosen (bytes_eq word (codes "OPEN")) (opening_of (numbers others)) none)
