-- How workers share rows in bands: this project's own rule.
use Rattle.std.specs.Prelude.{◌≡◌, ℕ, ◌+◌, ◌-◌, ◌*◌, ◌<◌, ◌≤◌, List, length, slice_index_or}
use Rattle.metric.specs.Nearest.{IsNear}
use Rattle.metric.specs.Workers.{row_behind}
use Rattle.metric.specs.declared.edge.Edge.{Edge}
use Rattle.bits.specs.Cells.{Cells}
use Rattle.bits.specs.Edges.{IsBlocked}
use Rattle.column.specs.declared.batch.Batch.{Batch}
use Rattle.envelope.specs.Answer.{Reading, Saying}
use Rattle.envelope.specs.Rows.{SaysNear}

-- of `count` bands, those after the first `above`, up to band `below`: at least one
pub record AreBands (count above below : ℕ) : Type 0 where
  pub some : above < below
  pub within : below ≤ count

-- the rows `from` to `to - 1` are in the map, and there is room for their answers
pub record HasRoom {T : Type 0} (cells : Cells) (from to : ℕ) (answers : List T) : Type 0 where
  pub order : from ≤ to
  pub within : to ≤ cells.height
  pub as_many : length answers ≡ (to - from) * cells.width

-- there is room for the answers of a batch's bands after the first `above`, up to band `below`
abbrev pub HasBandRoom : {T : Type 0} → Batch → ℕ → ℕ → ℕ → List T → Type 0
HasBandRoom batch count above below answers =
    HasRoom batch.bitmap.now (row_behind batch.y0 batch.y1 count above)
    (row_behind batch.y0 batch.y1 count below) answers

-- the first answers are the nearest obstacles of the cells of rows `from` to `to - 1`, in order
pub record AreFilled {T : Type 0} (told : Reading T) (nothing : T) (distance : ℕ → ℕ → ℕ)
    (cells : Cells) (edge : Edge) (from to : ℕ) (answers : List T) : Type 0 where
  pub each : (x y : ℕ) → x < cells.width → from ≤ y → y < to
      → IsNear distance (IsBlocked cells edge) x y
      (told distance x y (slice_index_or answers ((y - from) * cells.width + x) nothing))

-- the answers are the nearest obstacles of all cells of rows `from` to `to - 1`
pub record AreAnswers {T : Type 0} (told : Reading T) (nothing : T) (distance : ℕ → ℕ → ℕ)
    (cells : Cells) (edge : Edge) (from to : ℕ) (answers : List T) : Type 0 where
  pub as_many : length answers ≡ (to - from) * cells.width
  pub filled : AreFilled told nothing distance cells edge from to answers

-- the values say what the nearest obstacles of all cells of rows `from` to `to - 1` are
pub record AreValues {T : Type 0} (says : Saying T) (unset : T) (distance : ℕ → ℕ → ℕ)
    (cells : Cells) (edge : Edge) (from to : ℕ) (values : List T) : Type 0 where
  pub as_many : length values ≡ (to - from) * cells.width
  pub each : (x y : ℕ) → x < cells.width → from ≤ y → y < to
      → SaysNear says distance (IsBlocked cells edge) x y
      (slice_index_or values ((y - from) * cells.width + x) unset)
