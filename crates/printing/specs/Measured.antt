-- The text of a table with only distances: this project's own rule.
use Rattle.std.specs.Prelude.{◌≡◌, ℕ, ◌<◌, ◌==◌, List, [], ◌∷◌, ◌++◌, map, length, slice_index_or}
use Rattle.std.specs.Prelude.{Option, Some, None, if◌then◌else◌}
use Rattle.std.specs.Fmt.{decimal}
use Rattle.std.specs.List.{join_with_byte}
use Rattle.metric.specs.declared.near.Near.{Near}

-- a distance is printed as its number, or as `-` for the largest 32-bit number, which means none
abbrev pub distance_text : ℕ → List ℕ
distance_text distance = if distance == 4294967295 then 45 ∷ [] else decimal distance

-- the line of a row's distances has single blanks between them, and LF at its end
abbrev pub distances_line : List ℕ → List ℕ
distances_line distances = join_with_byte 32 (map distance_text distances) ++ 10 ∷ []

-- the number is this obstacle's distance and doesn't mean none, or there is none and it means that
abbrev pub IsDistanceOf : Option Near → ℕ → Type 0
IsDistanceOf None number = number ≡ 4294967295
IsDistanceOf (Some near) number = (number ≡ near.dist) × (number < 4294967295)

-- the numbers are the distances of these nearest obstacles, one by one
pub record AreDistances (nears : List (Option Near)) (numbers : List ℕ) : Type 0 where
  pub as_many : length numbers ≡ length nears
  pub each : (x : ℕ) → x < length nears
      → IsDistanceOf (slice_index_or nears x None) (slice_index_or numbers x 0)
