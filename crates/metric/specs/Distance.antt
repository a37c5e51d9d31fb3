-- Distances between cells.
-- Source: A. Meijster, J. Roerdink, W. Hesselink, "A General Algorithm for Computing Distance
-- Transforms in Linear Time" (2000): the distance transform and its metrics. Here the Euclidean
-- distance stays squared.
use Rattle.std.specs.Prelude.{◌≡◌, ℕ, ◌+◌, ◌*◌, ◌≤◌, max}
use Rattle.std.specs.Int.{abs_diff}
use Rattle.std.proofs.Common.{arith}
use Rattle.std.proofs.Math.Nat.{mul-le-mul}

-- the square of the Euclidean distance of two cells dx columns and dy rows apart
abbrev pub euclid2 : ℕ → ℕ → ℕ
euclid2 dx dy = dx * dx + dy * dy

-- the distance of cells (x, y) and (a, b) is that of their column and row differences
abbrev pub distance_between : (ℕ → ℕ → ℕ) → ℕ → ℕ → ℕ → ℕ → ℕ
distance_between distance x y a b = distance (abs_diff x a) (abs_diff y b)

-- a distance never decreases as the row difference grows, up to the largest map's
abbrev pub Grows : (ℕ → ℕ → ℕ) → Type 0
Grows distance = (dx g h : ℕ) → dx ≤ 4097 → g ≤ h → h ≤ 4097 → distance dx g ≤ distance dx h

-- the square of the Euclidean distance never decreases as the row difference grows
pub euclid2_grows : Grows euclid2
euclid2_grows dx g h columns up rows = let squares : g * g ≤ h * h = mul-le-mul up up in omega arith

-- the number of steps to one of four neighbours over dx columns and dy rows
abbrev pub city : ℕ → ℕ → ℕ
city dx dy = dx + dy

-- the number of steps to one of eight neighbours over dx columns and dy rows
abbrev pub chess : ℕ → ℕ → ℕ
chess dx dy = max dx dy

-- the distance by steps to four neighbours never decreases as the row difference grows
pub city_grows : Grows city
city_grows dx g h columns up rows = omega arith

-- the distance by steps to eight neighbours never decreases as the row difference grows
pub chess_grows : Grows chess
chess_grows dx g h columns up rows = omega arith

-- a distance is the sum of the column and row differences, up to the largest map's
abbrev pub IsSum : (ℕ → ℕ → ℕ) → Type 0
IsSum distance = (dx g : ℕ) → dx ≤ 4097 → g ≤ 4097 → distance dx g ≡ dx + g
