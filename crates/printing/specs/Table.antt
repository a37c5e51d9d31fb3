-- The text of a table of distances: this project's own rule.
use Rattle.std.specs.Prelude.{ℕ, ◌+◌, ◌*◌, List, [], ◌∷◌, ◌++◌, map, Bool, true, false, Option}
use Rattle.std.specs.Prelude.{Some, None}
use Rattle.metric.specs.declared.near.Near.{Near}
use Rattle.metric.specs.declared.spot.Spot.{Spot}
use Rattle.std.specs.Fmt.{decimal, signed_decimal}
use Rattle.std.specs.List.{range_with_len, join_with_byte, slice_range, flat_map}

-- an obstacle's position is written as its column and its row, each after a slash, with any `-`
abbrev pub place_text : Spot → List ℕ
place_text spot = 47 ∷ (signed_decimal spot.x ++ (47 ∷ signed_decimal spot.y))

-- a cell is printed as its distance, with its obstacle's `/x/y` if asked for, or as `-` if none
abbrev pub entry_text : Bool → Option Near → List ℕ
entry_text nearest None = 45 ∷ []
entry_text false (Some near) = decimal near.dist
entry_text true (Some near) = decimal near.dist ++ place_text near.cell

-- the line of a row has its entries with single blanks between them, and LF at its end
abbrev pub row_line : Bool → List (Option Near) → List ℕ
row_line nearest nears = join_with_byte 32 (map (entry_text nearest) nears) ++ 10 ∷ []

-- a table has the lines of all rows of this width, in order
unfoldable pub table_text : Bool → ℕ → ℕ → List (Option Near) → List ℕ
table_text nearest width height nears =
    flat_map (λ y. row_line nearest (slice_range nears (y * width) (y * width + width)))
    (range_with_len 0 height)

-- the lines of this many rows from this one on
unfoldable pub rows_text : Bool → ℕ → ℕ → ℕ → List (Option Near) → List ℕ
rows_text nearest width from count nears =
    flat_map (λ y. row_line nearest (slice_range nears (y * width) (y * width + width)))
    (range_with_len from count)
