-- The columns of a row that have an obstacle, and which of them is the nearest to a cell.
-- Source: A. Meijster, J. Roerdink, W. Hesselink, "A General Algorithm for Computing Distance
-- Transforms in Linear Time" (2000): the second phase, here with this project's rule for ties. A
-- column without an obstacle takes no part.
use Rattle.std.specs.Prelude.{◌≡◌, ◌≢◌, ℕ, ◌+◌, ◌-◌, ◌*◌, ◌<◌, ◌≤◌, List, length, slice_index}
use Rattle.std.specs.Prelude.{slice_index_or, Option, Some, None}
use Rattle.std.specs.Int.{abs_diff}
use Rattle.metric.specs.Edge.{shift, spot_of}
use Rattle.metric.specs.declared.edge.Edge.{Edge}
use Rattle.metric.specs.declared.near.Near.{Near}
use Rattle.metric.specs.Crossing.{at_column}
use Rattle.envelope.specs.Answer.{Saying}

-- a row of a table, seen from row y: each entry is a row of a map, or 65535 without an obstacle
pub record AreEntries (entries : List ℕ) (y : ℕ) : Type 0 where
  pub few : length entries ≤ 4098
  pub seen_from : y ≤ 4097
  pub each : (column : ℕ) → column < length entries → slice_index entries column ≢ 65535
      → slice_index entries column ≤ 4097

-- one of the first columns, with an obstacle
pub record IsAmong (entries : List ℕ) (count column : ℕ) : Type 0 where
  pub left : column < count
  pub some : slice_index entries column ≢ 65535

-- one of the columns from `first` to `count - 1`, with an obstacle
pub record IsColumnFrom (entries : List ℕ) (first count column : ℕ) : Type 0 where
  pub low : first ≤ column
  pub among : IsAmong entries count column

-- how many rows away from row y the obstacle of a column lies
abbrev pub gap_of : List ℕ → ℕ → ℕ → ℕ
gap_of entries y column = abs_diff y (slice_index entries column)

-- the distance from cell x to the obstacle of a column, with this gap
abbrev pub distance_from : (ℕ → ℕ → ℕ) → (ℕ → ℕ) → ℕ → ℕ → ℕ
distance_from distance gaps column x = at_column distance column (gaps column) x

-- a column's obstacle, seen from cell x of row y: its distance, and its spot
abbrev pub near_from : (ℕ → ℕ → ℕ) → List ℕ → ℕ → Edge → ℕ → ℕ → Near
near_from distance entries y edge column x =
    record {
      dist = distance_from distance (gap_of entries y) column x;
      cell = spot_of edge column (slice_index entries column);
    }

-- the right one of two columns is strictly nearer from this cell on, and not before
pub record IsCrossing (distance : ℕ → ℕ → ℕ) (left left_gap right right_gap start : ℕ) :
    Type 0 where
  pub few : start ≤ 4098
  pub before : (x : ℕ) → x < start
      → at_column distance left left_gap x ≤ at_column distance right right_gap x
  pub after : (x : ℕ) → start ≤ x → x ≤ 4097
      → at_column distance right right_gap x < at_column distance left left_gap x

-- of a set of columns the nearest to cell x, the first on a tie
pub record IsBest (distance : ℕ → ℕ → ℕ) (gaps : ℕ → ℕ) (Among : ℕ → Type 0) (x column : ℕ) :
    Type 0 where
  pub among : Among column
  pub least : (other : ℕ) → Among other
      → distance_from distance gaps column x ≤ distance_from distance gaps other x
  pub first : (other : ℕ) → Among other → other < column
      → distance_from distance gaps column x < distance_from distance gaps other x

-- the obstacle of the column nearest to cell x; none if there is no such column
abbrev pub IsNearColumn : (ℕ → ℕ → ℕ) → List ℕ → ℕ → Edge → ℕ → Option Near → Type 0
IsNearColumn distance entries y edge x None =
    (column : ℕ) → IsAmong entries (length entries) column → ⊥
IsNearColumn distance entries y edge x (Some near) =
    (column : ℕ) × IsBest distance (gap_of entries y) (IsAmong entries (length entries)) x column
    × (near ≡ near_from distance entries y edge column x)

-- a cell's value says what the obstacle of the column nearest to it is
pub record IsSaid {T : Type 0} (says : Saying T) (distance : ℕ → ℕ → ℕ) (entries : List ℕ) (y : ℕ)
    (edge : Edge) (x : ℕ) (value : T) : Type 0 where
  pub near : Option Near
  pub near_is : IsNearColumn distance entries y edge (x + shift edge) near
  pub said : says distance x (y - shift edge) value near

-- the values say what the obstacles of the columns nearest to the cells of row y within the edge are
pub record AreSaid {T : Type 0} (says : Saying T) (unset : T) (distance : ℕ → ℕ → ℕ)
    (entries : List ℕ) (y : ℕ) (edge : Edge) (values : List T) : Type 0 where
  pub as_many : length values + 2 * shift edge ≡ length entries
  pub each : (x : ℕ) → x < length values
      → IsSaid says distance entries y edge x (slice_index_or values x unset)
