-- What is known of cells whose columns are searched in vectors, from the nearest outwards: this
-- project's own rule. Each column has a place, 128 after its number, so that there are places on
-- both sides of all columns.
use Rattle.std.specs.Prelude.{◌≡◌, ℕ, ◌+◌, ◌-◌, ◌/◌, ◌<◌, ◌≤◌, List, length, slice_index, Some}
use Rattle.std.specs.Int.{abs_diff}
use Rattle.metric.specs.Edge.{spot_of}
use Rattle.metric.specs.declared.edge.Edge.{Edge}
use Rattle.envelope.specs.Columns.{IsNearColumn}

-- no part is larger than the part for no obstacle
abbrev pub AreSmall : List ℕ → Type 0
AreSmall parts = (p : ℕ) → p < length parts → slice_index parts p ≤ 32400

-- the parts of a row's columns, each at its place; those of the other places mean no obstacle
pub record AreColumnParts (part : ℕ → ℕ) (entries : List ℕ) (y : ℕ) (parts : List ℕ) : Type 0 where
  pub as_many : length parts ≡ length entries + 272
  pub small : AreSmall parts
  pub each : (column : ℕ) → column < length entries
      → slice_index parts (column + 128) ≡ part (abs_diff y (slice_index entries column))
  pub before : (p : ℕ) → p < 128 → slice_index parts p ≡ 32400
  pub behind : (p : ℕ) → length entries + 128 ≤ p → p < length entries + 272
      → slice_index parts p ≡ 32400

-- the reaches of up to 96 columns, each eight times
pub record AreReaches (reach : ℕ → ℕ) (reaches : List ℕ) : Type 0 where
  pub as_many : length reaches ≡ 776
  pub few : (p : ℕ) → p < 776 → slice_index reaches p ≤ 9409
  pub each : (p : ℕ) → p < 776 → slice_index reaches p ≡ reach (p / 8)

-- the offsets, from 128 columns to the left of each of eight cells, of the columns as far to the
-- left and to the right
abbrev pub AreSides : ℕ → List ℕ → List ℕ → Type 0
AreSides k left right =
    (i : ℕ) → i < 8 → (slice_index left i + k ≡ 128) × (slice_index right i ≡ 128 + k)

-- the 16-bit distance from the cell of one place to the obstacle of another
abbrev pub small_distance : (ℕ → ℕ → ℕ) → (ℕ → ℕ → ℕ) → List ℕ → ℕ → ℕ → ℕ
small_distance distance joined parts place other =
    joined (slice_index parts other) (distance (abs_diff place other) 0)

-- the first nearest of the places `from` to `to - 1`; it lies `away` - 128 to the right
pub record IsBestIn (far : ℕ → ℕ) (place from to best away : ℕ) : Type 0 where
  pub other : ℕ
  pub where_is : other + 128 ≡ place + away
  pub low : from ≤ other
  pub high : other < to
  pub best_is : far other ≡ best
  pub least : (p : ℕ) → from ≤ p → p < to → best ≤ far p
  pub first : (p : ℕ) → from ≤ p → p < other → best < far p

-- each of eight cells, from a place on, knows the best place less than this many columns away
abbrev pub AreBestNear : (ℕ → ℕ → ℕ) → (ℕ → ℕ → ℕ) → List ℕ → ℕ → ℕ → List ℕ → List ℕ → Type 0
AreBestNear distance joined parts at k best away =
    (i : ℕ) → i < 8 → IsBestIn (small_distance distance joined parts (at + i)) (at + i)
    (at + i + 1 - k) (at + i + k) (slice_index best i) (slice_index away i)

-- the best of the places less than some columns away, nearer than any column farther off can be
pub record IsDecided (distance joined : ℕ → ℕ → ℕ) (parts : List ℕ) (place best away : ℕ) :
    Type 0 where
  pub k : ℕ
  pub few : k ≤ 97
  pub found : IsBestIn (small_distance distance joined parts place) place (place + 1 - k)
      (place + k) best away
  pub less : best < distance k 0

-- each of eight cells, from a place on, has its nearest
abbrev pub AreDecided : (ℕ → ℕ → ℕ) → (ℕ → ℕ → ℕ) → List ℕ → ℕ → List ℕ → List ℕ → Type 0
AreDecided distance joined parts at best away =
    (i : ℕ) → i < 8 → IsDecided distance joined parts (at + i) (slice_index best i)
    (slice_index away i)

-- a cell's best and its offset give the obstacle of the column nearest to the cell
pub record IsToldByLanes (distance : ℕ → ℕ → ℕ) (entries : List ℕ) (y : ℕ) (edge : Edge)
    (x best away : ℕ) : Type 0 where
  pub right : 128 ≤ x + away
  pub inside : x + away - 128 < length entries
  pub near : IsNearColumn distance entries y edge x
      (Some (record {
        dist = best;
        cell = spot_of edge (x + away - 128) (slice_index entries (x + away - 128));
      }))

-- the same for eight cells, as far as the row goes
abbrev pub AreTold : (ℕ → ℕ → ℕ) → List ℕ → ℕ → Edge → ℕ → List ℕ → List ℕ → Type 0
AreTold distance entries y edge start best away =
    (i : ℕ) → i < 8 → start + i < length entries
    → IsToldByLanes distance entries y edge (start + i) (slice_index best i) (slice_index away i)
