-- What an answer of any kind means for a cell's nearest obstacle: this project's own rule.
use Rattle.std.specs.Prelude.{◌≡◌, ℕ, Option, Some, None}
use Rattle.metric.specs.declared.near.Near.{Near}

-- how to read an answer: the obstacle it means for a cell's column and row, by a metric's distance
abbrev pub Reading : Type 0 → Type 0
Reading T = (ℕ → ℕ → ℕ) → ℕ → ℕ → T → Option Near

-- what a value says of a cell's nearest obstacle, by its column and row and a metric's distance
abbrev pub Saying : Type 0 → Type 1
Saying T = (ℕ → ℕ → ℕ) → ℕ → ℕ → T → Option Near → Type 0

-- the number is the distance of this nearest obstacle; if there is none, the largest 32-bit number
abbrev pub IsDistanceOf : Option Near → ℕ → Type 0
IsDistanceOf None number = number ≡ 4294967295
IsDistanceOf (Some near) number = number ≡ near.dist
