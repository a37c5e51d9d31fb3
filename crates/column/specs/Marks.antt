-- What reading rows does to the entries of a row: this project's own rule.
use Rattle.std.specs.Prelude.{◌≡◌, ℕ, ◌*◌, ◌/◌, ◌%◌, ◌<◌, ◌≤◌, ◌⊎◌, ◌==◌, nat_lt, Bool, List}
use Rattle.std.specs.Prelude.{length, slice_index, Option, Some, None, if◌then◌else◌}
use Rattle.std.specs.Int.{abs_diff, bit_at}
use Rattle.bits.specs.Cells.{Cells, IsObstacle}
use Rattle.column.specs.Columns.{IsNearestRow, row_of}

-- the entry of an obstacle is its own row; any other stays
abbrev pub marked : Bool → ℕ → ℕ → ℕ
marked black y entry = if black then y else entry

-- whether a row's words have a 1 for column x
abbrev pub is_marked : List ℕ → ℕ → Bool
is_marked words x = bit_at (slice_index words (x / 64)) (x % 64) == 1

-- an entry is a row of a map with its frame, or means no row
abbrev pub IsEntry : ℕ → Type 0
IsEntry entry = (entry ≡ 65535) ⊎ (entry ≤ 4097)

-- the nearer of the nearest at or above row y and that of the row below, the upper on a tie
abbrev pub nearer : ℕ → ℕ → ℕ → ℕ
nearer y above below =
    if below == 65535 then above else if above == 65535 then below
    else if nat_lt (abs_diff y below) (abs_diff y above) then below else above

-- the nearest to row y of column x's obstacles less than `away` rows away; none if there is none
abbrev pub IsNearestWithin : Cells → ℕ → ℕ → ℕ → Option ℕ → Type 0
IsNearestWithin cells x y away None = (b : ℕ) → abs_diff y b < away → IsObstacle cells x b → ⊥
IsNearestWithin cells x y away (Some row) = IsNearestRow cells x y (Some row)

-- the masks have a 1 for each column whose entry means no row, and for no other
abbrev pub AreMissing : List ℕ → List ℕ → Type 0
AreMissing masks entries =
    (x : ℕ) → x < length entries → is_marked masks x ≡ (slice_index entries x == 65535)

-- an entry that means no row becomes that of the obstacle, if there is one; any other stays
abbrev pub first_marked : Bool → ℕ → ℕ → ℕ
first_marked black y entry = if entry == 65535 then marked black y entry else entry

-- the entries of row y are right for the obstacles less than `away` rows away
pub record IsSeen (cells : Cells) (y away : ℕ) (masks entries : List ℕ) : Type 0 where
  pub as_many : length entries ≡ cells.width
  pub room : cells.width ≤ 64 * length masks
  pub missing : AreMissing masks entries
  pub nearest : (x : ℕ) → x < cells.width
      → IsNearestWithin cells x y away (row_of (slice_index entries x))
