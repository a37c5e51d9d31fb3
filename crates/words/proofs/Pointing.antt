-- The points of a line are read one after another.
use Rattle.std.proofs.Common.{◌≡◌, ℕ, ◌+◌, ◌^◌, ◌≤◌, ◌<◌, Bool, true, not}
use Rattle.std.proofs.Common.{List, [], ◌∷◌, ◌++◌}
use Rattle.std.proofs.Common.{Option, Some, None, refl, inl, inr, arith}
use Rattle.std.proofs.Common.{append_assoc, take}
use Rattle.std.specs.Prelude.{is_some, option_map}
use Rattle.std.specs.Bool.{then_some}
use Rattle.std.specs.Borrow.{Bor}
use Rattle.metric.specs.declared.cell.Cell.{Cell}
use Rattle.words.specs.Numbers.{point, join_point, points, HasNoFirst, only}
use Rattle.words.specs.Words.{words_left}
use Rattle.words.proofs.Splitting.{words-some}

-- a point is put before others, where they could be read
abbrev before : Cell → Option (List Cell) → Option (List Cell)
before cell others = option_map (λ cells. cell ∷ cells) others

-- a point before others that are joined is not the only one
only-joined : (cell : Cell) (first : Option Cell) (others : Option (List Cell))
    → only (before cell (join_point first others)) ≡ None
only-joined cell first others = grind arith

-- a point and another word are more than one point
only-word : (cell : Cell) (word : List ℕ) (others : List (List ℕ))
    → only (before cell (points (word ∷ others))) ≡ None
unfolding points
only-word cell word [] = refl
only-word cell word (next ∷ others) = only-joined cell (point word next) (points others)

-- a point is the only one if nothing is left of the line
pub is_only : (cell : Cell) (rest : List (List ℕ)) (left : Option (Bor (List ℕ))) (none : Bool)
    → is_some left ≡ not none → points rest ≡ before cell (points (words_left left))
    → then_some none cell ≡ only (points rest)
unfolding points
is_only cell rest None none is e = grind arith
is_only cell rest (Some bytes) none is e =
    let some = words-some bytes.now in rw (e, some.2, only-word cell some.0 some.1) (grind arith)

-- where what is left of a line doesn't start with a point, it is no list of points
pub points-none : (rest : Option (Bor (List ℕ))) → is_some rest ≡ true
    → HasNoFirst (words_left rest) → points (words_left rest) ≡ None
points-none None some first = absurd cc
points-none (Some bytes) some (inr none) = none
points-none (Some bytes) some (inl empty) = absurd (let word = (words-some bytes.now).2 in cc)

-- adding a point, and then the others, adds the point before the others
added-more : (cells : List Cell) (cell : Cell) (others : Option (List Cell))
    → option_map (λ more. cells ++ more) (before cell others)
    ≡ option_map (λ more. (cells ++ cell ∷ []) ++ more) others
added-more cells cell others = grind (arith, append_assoc)

-- no point is kept in front of all
pub kept-none : (cells : List Cell) (all : Option (List Cell))
    → all ≡ option_map (λ more. take 0 cells ++ more) all
kept-none cells all = grind arith

-- a point is kept after those before it, and in front of the others
pub kept-more : (before after : List Cell) (count : ℕ) (cell : Cell)
    (all others : Option (List Cell)) → all ≡ option_map (λ more. take count before ++ more)
    (option_map (λ cells. cell ∷ cells) others)
    → take (count + 1) after ≡ take count before ++ cell ∷ []
    → all ≡ option_map (λ more. take (count + 1) after ++ more) others
kept-more before after count cell all others is kept =
    rw (kept, ← added-more (take count before) cell others) is

-- the points counted, and one more, are fewer than the bytes of a line can be
pub few-more : (count left more : ℕ) → (0 < count → count + left ≤ 2 ^ 64) → more + 2 ≤ left
    → left ≤ 2 ^ 64 → count + 1 < 2 ^ 64
few-more count left more few fewer small = grind arith
