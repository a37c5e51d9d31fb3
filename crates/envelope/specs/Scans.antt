-- The words by which two scans of a row find the nearest column on each side of a cell, if a
-- distance is the sum of columns and rows: this project's own rule.
use Rattle.std.specs.Prelude.{◌≡◌, ℕ, ◌+◌, ◌-◌, ◌*◌, ◌/◌, ◌%◌, ◌<◌, ◌≤◌, ◌==◌, List, length}
use Rattle.std.specs.Prelude.{slice_index, if◌then◌else◌}
use Rattle.envelope.specs.Columns.{IsAmong, distance_from, gap_of}
use Rattle.envelope.specs.Pieces.{IsBestOfAll}

-- some column of the row has an obstacle
abbrev pub HasColumn : List ℕ → Type 0
HasColumn entries = (column : ℕ) × IsAmong entries (length entries) column

-- a column's number, and above it how far its obstacle is; the largest word without an obstacle
abbrev pub word_of : ℕ → ℕ → ℕ → ℕ
word_of entry far column = if entry == 65535 then 4294967295 else far * 8192 + column

-- a column's word for cells on its right: its obstacle's distance from column 4098
abbrev pub left_word : List ℕ → ℕ → ℕ → ℕ
left_word entries y column =
    word_of (slice_index entries column) (gap_of entries y column + 4098 - column) column

-- a column's word for cells on its left: its obstacle's distance from the first cell
abbrev pub right_word : List ℕ → ℕ → ℕ → ℕ
right_word entries y column =
    word_of (slice_index entries column) (gap_of entries y column + column) column

-- the least word of the places `from` to `to - 1`; the largest word if there is no lesser one
pub record IsLeast (word : ℕ → ℕ) (from to least : ℕ) : Type 0 where
  pub at_most : (place : ℕ) → from ≤ place → place < to → least ≤ word place
  pub found : least < 4294967295 → (place : ℕ) × (from ≤ place) × (place < to)
      × (word place ≡ least)

-- the least word of the columns up to each cell
abbrev pub AreLeftLeast : List ℕ → ℕ → List ℕ → Type 0
AreLeftLeast entries y words =
    (x : ℕ) → x < length entries → IsLeast (left_word entries y) 0 (x + 1) (slice_index words x)

-- the least word of the columns from each cell on
abbrev pub AreRightLeast : List ℕ → ℕ → List ℕ → Type 0
AreRightLeast entries y words =
    (x : ℕ) → x < length entries
    → IsLeast (right_word entries y) x (length entries) (slice_index words x)

-- a word gives cell x its nearest column, and how far away its obstacle is
pub record IsToldBy (distance : ℕ → ℕ → ℕ) (entries : List ℕ) (y x word : ℕ) : Type 0 where
  pub best : IsBestOfAll distance entries y x (word % 8192)
  pub far : word / 8192 ≡ distance_from distance (gap_of entries y) (word % 8192) x

-- the words give the cells of the row their nearest columns
abbrev pub AreToldBy : (ℕ → ℕ → ℕ) → List ℕ → ℕ → List ℕ → Type 0
AreToldBy distance entries y words =
    (x : ℕ) → x < length entries → IsToldBy distance entries y x (slice_index words x)
