-- Numbers and points of a line: this project's own rule.
use Rattle.std.specs.Prelude.{◌≡◌, ℕ, ◌&&◌, ◌⊎◌, nat_lt, nat_le, min, List, [], ◌∷◌, length, Option}
use Rattle.std.specs.Prelude.{Some, None, option_and_then, option_map, if◌then◌else◌}
use Rattle.std.specs.Prelude.{◌==◌, ◌||◌, Result, Ok, Err}
use Rattle.std.specs.List.{list_all}
use Rattle.metric.specs.Digits.{is_digit, value_from}
use Rattle.metric.specs.declared.cell.Cell.{Cell}
use Rattle.metric.specs.declared.refusal.Refusal.{Refusal}
use Rattle.metric.specs.declared.refusal.Refusal.TheVariants.{BadArguments, BadPath}

-- a number has 1 to 10 digits, and is at most 4294967295
unfoldable pub number : List ℕ → Option ℕ
number word =
    if (nat_le 1 (length word) && nat_le (length word) 10)
    && (list_all is_digit word && nat_lt (value_from 0 word) 4294967296)
    then Some (value_from 0 word) else None

-- a number in front of others, if all are numbers
abbrev pub join_number : Option ℕ → Option (List ℕ) → Option (List ℕ)
join_number first others = option_and_then (λ n. option_map (λ ns. n ∷ ns) others) first

-- the numbers that the words spell; none if one of them isn't a number
unfoldable pub numbers : List (List ℕ) → Option (List ℕ)
numbers [] = Some []
numbers (word ∷ others) = join_number (number word) (numbers others)

-- the first of these words isn't a number
abbrev pub HasNoNumber : List (List ℕ) → Type 0
HasNoNumber words = (words ≡ []) ⊎ (numbers words ≡ None)

-- the number, if there is exactly one
abbrev pub only_number : Option (List ℕ) → Option ℕ
only_number (Some (n ∷ [])) = Some n
only_number other = None

-- the two numbers, if there are exactly two
abbrev pub number_pair : Option (List ℕ) → Option (ℕ × ℕ)
number_pair (Some (first ∷ second ∷ [])) = Some (first, second)
number_pair other = None

-- the three numbers, if there are exactly three
abbrev pub number_triple : Option (List ℕ) → Option (ℕ × ℕ × ℕ)
number_triple (Some (first ∷ second ∷ third ∷ [])) = Some (first, second, third)
number_triple other = None

-- a coordinate; one over 65535 reads as 65535, which is outside every map and rectangle too
abbrev pub coordinate : ℕ → ℕ
coordinate n = min n 65535

-- the cell whose column and row are two numbers
abbrev pub cell_of : ℕ → ℕ → Cell
cell_of x y = record { x = coordinate x; y = coordinate y }

-- the point that two words spell, if both are numbers
abbrev pub point : List ℕ → List ℕ → Option Cell
point x y = option_and_then (λ column. option_map (λ row. cell_of column row) (number y)) (number x)

-- a point in front of others, if all are points
abbrev pub join_point : Option Cell → Option (List Cell) → Option (List Cell)
join_point first others = option_and_then (λ cell. option_map (λ cells. cell ∷ cells) others) first

-- the points that the words spell, if their number is even and all are numbers
unfoldable pub points : List (List ℕ) → Option (List Cell)
points [] = Some []
points (x ∷ []) = None
points (x ∷ y ∷ others) = join_point (point x y) (points others)

-- the first of these words isn't a point's
abbrev pub HasNoFirst : List (List ℕ) → Type 0
HasNoFirst words = (words ≡ []) ⊎ (points words ≡ None)

-- the point, if there is exactly one
abbrev pub only : Option (List Cell) → Option Cell
only (Some (cell ∷ [])) = Some cell
only other = None

-- the two points, if there are exactly two
abbrev pub pair : Option (List Cell) → Option (Cell × Cell)
pair (Some (first ∷ second ∷ [])) = Some (first, second)
pair other = None

-- what the first word says, with the words left after it
abbrev pub first_of : {A : Type 0} → (List ℕ → Option A) → List (List ℕ)
    → Option (A × List (List ℕ))
first_of told [] = None
first_of told (word ∷ others) = option_map (λ value. (value, others)) (told word)

-- a path has 1 to 1000 points
abbrev pub path_of : Option (List Cell) → Result (List Cell) Refusal
path_of None = Err BadArguments
path_of (Some points) =
    if length points == 0 || nat_lt 1000 (length points) then Err BadPath else Ok points
