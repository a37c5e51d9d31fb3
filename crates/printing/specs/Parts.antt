-- The rows that workers print in parallel: this project's own rule.
use Rattle.std.specs.Prelude.{◌≡◌, ℕ, ◌+◌, ◌-◌, ◌*◌, ◌<◌, ◌≤◌, All, List, Bool}
use Rattle.std.specs.Prelude.{length, min, slice_index_or, take, vec_capacity, vec_len}
use Rattle.printing.specs.declared.parts.WorkerLines.{WorkerLines}
use Rattle.printing.specs.RowCells.{IsRowRoom}
use Rattle.printing.specs.Table.{rows_text}
use Rattle.printing.specs.Tabled.{TableView}

-- a worker's buffers for this many rows of this width have room for a row and all lines
pub record IsShare (nearest : Bool) (width rows : ℕ) (part : WorkerLines) : Type 0 where
  pub row : IsRowRoom nearest width part.row
  pub room : rows * (25 * width + 1) + 3 ≤ vec_capacity part.text
  pub end : part.end ≤ vec_len part.text

-- a set has buffers for each of 1 to 16 workers, each for this many rows
pub record AreShares (nearest : Bool) (width rows : ℕ) (parts : List WorkerLines) : Type 0 where
  pub some : 1 ≤ length parts
  pub few : length parts ≤ 16
  pub some_rows : 1 ≤ rows
  pub few_rows : rows ≤ 4096
  pub places : All (IsShare nearest width rows) parts

-- a worker has the lines of this many rows from this one on, or of as many as there are
pub record HasRows (nearest : Bool) (table : TableView) (rows from : ℕ) (part : WorkerLines) :
    Type 0 where
  pub kept : IsShare nearest table.width rows part
  pub text : take part.end part.text.items ≡ rows_text nearest table.width (min table.height from)
      (min table.height (from + rows) - min table.height from) table.nears

-- each part has this many rows, one part's after another's
abbrev pub ShareRows : Bool → TableView → ℕ → ℕ → List WorkerLines → Type 0
ShareRows nearest table rows from parts =
    (k : ℕ) (other : WorkerLines) → k < length parts
    → HasRows nearest table rows (from + rows * k) (slice_index_or parts k other)

-- the lines of a table's rows in this many parts of this many rows each, from this row on
abbrev pub parts_text : Bool → TableView → ℕ → ℕ → ℕ → List ℕ
parts_text nearest table rows from count =
    rows_text nearest table.width (min table.height from)
    (min table.height (from + rows * count) - min table.height from) table.nears
