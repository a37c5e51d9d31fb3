-- A line that is sought from a row, one row after another, until each column has an entry.
use Rattle.std.proofs.Common.{◌≡◌, ℕ, ◌+◌, ◌<◌, ◌≤◌, ◌∙◌, inl, inr, Bool, true, false, List, Option}
use Rattle.std.proofs.Common.{Some, None, length, get_or, arith, refl, ap}
use Rattle.std.proofs.Math.ListN.{replicate}
use Rattle.std.proofs.lemmas.Bool.{cases_eq, cases_lt}
use Rattle.std.proofs.lemmas.List.{get_or-replicate}
use Rattle.bits.specs.Cells.{Cells, IsObstacle, has}
use Rattle.bits.specs.Edges.{IsMap}
use Rattle.column.specs.Columns.{row_of}
use Rattle.column.specs.Lines.{IsLineFrom, IsRowBefore, IsRowFrom}
use Rattle.column.specs.Marks.{AreMissing, first_marked}
use Rattle.column.proofs.Nearest.{row_of-none, row_of-some}
use Rattle.column.proofs.Seeking.{IsSeen-none, first_marked-black, first_marked-free}
use Rattle.column.proofs.Seeking.{first_marked-some}

-- this is the row of the uppermost obstacle of column x in the rows from one to before another;
-- none where they have none
abbrev pub IsRowFromTo : Cells → ℕ → ℕ → ℕ → Option ℕ → Type 0
IsRowFromTo cells from to x None = (b : ℕ) → from ≤ b → b < to → IsObstacle cells x b → ⊥
IsRowFromTo cells from to x (Some row) = IsRowFrom cells x from (Some row)

-- this is the row of the lowest obstacle of column x in the rows from one to before another; none
-- where they have none
abbrev pub IsRowToBefore : Cells → ℕ → ℕ → ℕ → Option ℕ → Type 0
IsRowToBefore cells from to x None = (b : ℕ) → from ≤ b → b < to → IsObstacle cells x b → ⊥
IsRowToBefore cells from to x (Some row) = IsRowBefore cells x to (Some row)

-- the line has what is known of each column, and the masks say which columns have no entry
pub record IsSought (cells : Cells) (Is : ℕ → Option ℕ → Type 0) (masks line : List ℕ) :
    Type 0 where
  pub as_many : length line ≡ cells.width
  pub room : length masks ≡ 64
  pub missing : AreMissing masks line
  pub each : (x : ℕ) → x < cells.width → Is x (row_of (get_or line x 0))

-- before any row has been searched, the line has no entries and the masks have every column
pub IsSought-none : (cells : Cells) (Is : ℕ → Option ℕ → Type 0) (masks line : List ℕ)
    → cells.width ≤ 4096 → length masks ≡ 64 → masks ≡ replicate 64 18446744073709551615
    → line ≡ replicate cells.width 65535
    → ((x : ℕ) → Is x None) → IsSought cells Is masks line
IsSought-none cells Is masks line few room all empty none =
    let unseen = IsSeen-none cells 0 masks line few all empty in
    record {
      as_many = unseen.as_many;
      room = room;
      missing = unseen.missing;
      each = λ x column.
          let entry : get_or line x 0 ≡ 65535 = ap (λ (xs : List ℕ). get_or xs x 0) empty
          ∙ get_or-replicate {A = ℕ} cells.width x 65535 0 column in
          rw (row_of-none (get_or line x 0) entry) (none x);
    }

-- an entry tells what is known of its column once one more row has been searched
next_entry : (cells : Cells) (Is Next : ℕ → Option ℕ → Type 0) (x y entry : ℕ) → y < 65535
    → (has cells x y ≡ true → Is x None → Next x (Some y))
    → (has cells x y ≡ false → Is x None → Next x None)
    → ((row : ℕ) → Is x (Some row) → Next x (Some row))
    → Is x (row_of entry) → (black : Bool) → has cells x y ≡ black
    → Next x (row_of (first_marked (has cells x y) y entry))
next_entry cells Is Next x y entry small met free kept was black is =
    elim (cases_eq entry 65535) [
      | inr some ↦ rw (first_marked-some (has cells x y) y entry some, row_of-some entry some)
          (kept entry (rw (row_of-some entry some) at was))
      | inl none ↦ next_missing cells Is Next x y entry small none met free
          (rw (row_of-none entry none) at was) black is
    ]
  where
    next_missing : (cells : Cells) (Is Next : ℕ → Option ℕ → Type 0) (x y entry : ℕ) → y < 65535
        → entry ≡ 65535
        → (has cells x y ≡ true → Is x None → Next x (Some y))
        → (has cells x y ≡ false → Is x None → Next x None)
        → Is x None → (black : Bool) → has cells x y ≡ black
        → Next x (row_of (first_marked (has cells x y) y entry))
    next_missing cells Is Next x y entry small none met free was true is =
        rw (first_marked-black (has cells x y) y entry none is, row_of-some y (λ same. omega arith))
        (met is was)
    next_missing cells Is Next x y entry small none met free was false is =
        let still : first_marked (has cells x y) y entry ≡ 65535 =
        first_marked-free (has cells x y) y entry is ∙ none in
        rw (row_of-none (first_marked (has cells x y) y entry) still) (free is was)

-- a line tells what is known of each column once one more row has been searched
IsSought-next : (cells : Cells) (Is Next : ℕ → Option ℕ → Type 0) (y : ℕ)
    (masks new_masks old new : List ℕ) → IsMap cells → y < cells.height
    → ((x : ℕ) → has cells x y ≡ true → Is x None → Next x (Some y))
    → ((x : ℕ) → has cells x y ≡ false → Is x None → Next x None)
    → ((x row : ℕ) → Is x (Some row) → Next x (Some row))
    → IsSought cells Is masks old → length new ≡ length old → length new_masks ≡ length masks
    → AreMissing new_masks new
    → ((x : ℕ) → x < cells.width → get_or new x 0 ≡ first_marked (has cells x y) y (get_or old x 0))
    → IsSought cells Next new_masks new
IsSought-next cells Is Next y masks new_masks old new map within met free kept was len masks_len
    missing marks =
    let few = map.height_few in
    record {
      as_many = len ∙ was.as_many;
      room = masks_len ∙ was.room;
      missing = missing;
      each = λ x column. rw (marks x column)
          (next_entry cells Is Next x y (get_or old x 0) (omega (arith, few, within)) (met x)
          (free x)
          (kept x) (was.each x column) (has cells x y) refl);
    }

-- a line that is sought downwards to row y is sought to the row after it, once row y has been
-- searched
pub IsSought-down : (cells : Cells) (from y : ℕ) (masks new_masks old new : List ℕ) → IsMap cells
    → from ≤ y → y < cells.height
    → IsSought cells (IsRowFromTo cells from y) masks old → length new ≡ length old
    → length new_masks ≡ length masks → AreMissing new_masks new
    → ((x : ℕ) → x < cells.width → get_or new x 0 ≡ first_marked (has cells x y) y (get_or old x 0))
    → IsSought cells (IsRowFromTo cells from (y + 1)) new_masks new
IsSought-down cells from y masks new_masks old new map order within was len masks_len missing
    marks =
    IsSought-next cells (IsRowFromTo cells from y)
    (IsRowFromTo cells from (y + 1)) y masks new_masks old new map within
    (λ x is none. (
      is,
      order,
      λ b low black. elim (cases_lt b y) [
        | inl above ↦ absurd (none b low above black)
        | inr behind ↦ behind
      ],
    ))
    (λ x is none b low high black. elim (cases_eq b y)
    [ inl here ↦ absurd (cc) | inr apart ↦ none b low (omega arith) black ])
    (λ x row kept. kept) was len masks_len missing marks

-- a line that is sought upwards to the row after row y is sought to row y, once row y has been
-- searched
pub IsSought-up : (cells : Cells) (y to : ℕ) (masks new_masks old new : List ℕ) → IsMap cells
    → y < to → to ≤ cells.height
    → IsSought cells (IsRowToBefore cells (y + 1) to) masks old → length new ≡ length old
    → length new_masks ≡ length masks → AreMissing new_masks new
    → ((x : ℕ) → x < cells.width → get_or new x 0 ≡ first_marked (has cells x y) y (get_or old x 0))
    → IsSought cells (IsRowToBefore cells y to) new_masks new
IsSought-up cells y to masks new_masks old new map order within was len masks_len missing marks =
    IsSought-next cells (IsRowToBefore cells (y + 1) to)
    (IsRowToBefore cells y to) y masks new_masks old new map (omega (arith, order, within))
    (λ x is none. (
      is,
      order,
      λ b low black. elim (cases_lt y b)
          [ inl below ↦ absurd (none b (omega (arith, below)) low black) | inr above ↦ above ],
    ))
    (λ x is none b low high black. elim (cases_eq b y)
    [ inl here ↦ absurd (cc) | inr apart ↦ none b (omega arith) high black ])
    (λ x row kept. kept) was len masks_len missing marks

-- what is known of a column is all, where all rows from one on have been searched
all_from : (cells : Cells) (from to x : ℕ) (row : Option ℕ) → IsMap cells → cells.height ≤ to
    → IsRowFromTo cells from to x row → IsRowFrom cells x from row
all_from cells from to x None map all none = λ b low black. let inside = map.inside x b black in
    let row = inside.row in none b low (omega (arith, row, all)) black
all_from cells from to x (Some row) map all found = found

-- once all rows from one on have been searched, the line is that of the obstacles from there on
pub IsLineFrom-all : (cells : Cells) (from to : ℕ) (masks line : List ℕ) → IsMap cells
    → cells.height ≤ to → IsSought cells (IsRowFromTo cells from to) masks line
    → IsLineFrom cells from line
IsLineFrom-all cells from to masks line map all sought =
    record {
      as_many = sought.as_many;
      each = λ x column. all_from cells from to x (row_of (get_or line x 0)) map all
          (sought.each x column);
    }
