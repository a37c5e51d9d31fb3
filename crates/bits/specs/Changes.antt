-- How many cells change: this project's own rule.
use Rattle.std.specs.Prelude.{ℕ, Bool, true, false, not, sum_by, count_by}
use Rattle.std.specs.List.{range_with_len}
use Rattle.bits.specs.Cells.{Cells, has}

-- whether two booleans differ
abbrev pub differs : Bool → Bool → Bool
differs true b = not b
differs false b = b

-- how many cells of row y differ between two bitmaps
abbrev pub changes_in_row : Cells → Cells → ℕ → ℕ
changes_in_row old new y =
    count_by (λ x. differs (has old x y) (has new x y)) (range_with_len 0 old.width)

-- how many cells differ between two bitmaps of the same size
unfoldable pub changes : Cells → Cells → ℕ
changes old new = sum_by (changes_in_row old new) (range_with_len 0 old.height)
