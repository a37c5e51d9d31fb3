-- What is kept of rows in strips of equal height, except the last: this project's own rule.
use Rattle.std.specs.Prelude.{◌≡◌, ℕ, ◌+◌, ◌-◌, ◌*◌, ◌/◌, ◌%◌, ◌<◌, ◌≤◌, List, [], length, min}
use Rattle.std.specs.Prelude.{slice_index_or}
use Rattle.std.specs.List.{slice_range}
use Rattle.metric.specs.declared.edge.Edge.{Edge}
use Rattle.bits.specs.Cells.{Cells, IsBitmap}
use Rattle.column.specs.declared.batch.Batch.{Batch}

-- how many of some rows come before a strip, in strips of equal height except the last
abbrev pub rows_before : ℕ → ℕ → ℕ → ℕ
rows_before rows height strip = min rows (strip * height)

-- the first row of a strip, if the rows of a batch are in strips of this height
abbrev pub strip_row : Batch → ℕ → ℕ → ℕ
strip_row batch height strip = batch.y0 + rows_before (batch.y1 - batch.y0) height strip

-- what a strip holds of rows `from` to `to - 1` of a map with its edge, by a metric's distance
abbrev pub Holding : Type 0 → Type 1
Holding S = (ℕ → ℕ → ℕ) → Cells → Edge → ℕ → ℕ → S → Type 0

-- this is held of the rows of one strip of a batch
abbrev pub IsStripOf : {S : Type 0} → Holding S → (ℕ → ℕ → ℕ) → Batch → ℕ → ℕ → S → Type 0
IsStripOf holds distance batch height strip kept =
    holds distance batch.bitmap.now batch.edge (strip_row batch height strip)
    (strip_row batch height (strip + 1)) kept

-- each strip holds this of its rows
abbrev pub AreStripsOf : {S : Type 0} → Holding S → (ℕ → ℕ → ℕ) → Batch → ℕ → List S → Type 0
AreStripsOf {S} holds distance batch height strips =
    (strip : ℕ) (other : S) → strip < length strips
    → IsStripOf holds distance batch height strip (slice_index_or strips strip other)

-- the strips hold this of all rows of a batch
pub record HoldRows {S : Type 0} (holds : Holding S) (distance : ℕ → ℕ → ℕ) (batch : Batch)
    (height : ℕ) (strips : List S) : Type 0 where
  pub bitmap : IsBitmap batch.bitmap.now
  pub some : 1 ≤ height
  pub enough : batch.y1 - batch.y0 ≤ length strips * height
  pub each : AreStripsOf holds distance batch height strips

-- the strips of this height hold this many rows of this width
pub record AreStrips {T : Type 0} (width height rows : ℕ) (strips : List (List T)) : Type 0 where
  pub some : 1 ≤ height
  pub enough : rows ≤ length strips * height
  pub each : (strip : ℕ) → strip < length strips
      → length (slice_index_or strips strip [])
      ≡ (rows_before rows height (strip + 1) - rows_before rows height strip) * width

-- what strips of this height with rows of this width have of one row, counted from 0
abbrev pub line_in : {T : Type 0} → ℕ → ℕ → List (List T) → ℕ → List T
line_in width height strips row =
    slice_range (slice_index_or strips (row / height) []) (row % height * width)
    (row % height * width + width)
