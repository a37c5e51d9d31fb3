-- The answers for the cells of a list, as C sees them: this project's own rule.
use Rattle.std.specs.Prelude.{◌≡◌, ℕ, ℤ, ◌<◌, ◌⊎◌, List, length, slice_index, slice_index_or}
use Rattle.std.specs.Prelude.{true, false}
use Rattle.metric.specs.declared.cell.Cell.{Cell}
use Rattle.metric.specs.declared.near.Near.{Near}
use Rattle.metric.specs.Nearest.{IsNear, IsNearest}
use Rattle.bits.specs.Cells.{Cells, IsInside}
use Rattle.clearance.specs.Firsts.{cell_of_list}
use Rattle.clearance.specs.Paths.{is_outside}
use Rattle.libclearmap.specs.declared.near.ClearmapNear.{ClearmapNear}
use Rattle.libclearmap.specs.Kept.{kept_nothing, near_kept}

-- the cell at this index of a list is in the map
abbrev pub IsInsideAt : Cells → List Cell → ℕ → Type 0
IsInsideAt cells asked i = let cell = cell_of_list asked i in IsInside cells cell.x cell.y

-- this is the index of the list's first cell that isn't in the map
pub record IsFirstOutside (cells : Cells) (asked : List Cell) (wrong : ℕ) : Type 0 where
  pub within : wrong < length asked
  pub outside : is_outside cells (cell_of_list asked wrong) ≡ true
  pub inside : (i : ℕ) → i < wrong → is_outside cells (cell_of_list asked i) ≡ false

-- a value means the nearest obstacle of a cell
abbrev pub MeansNear : (ℕ → ℕ → ℕ) → (ℤ → ℤ → Type 0) → Cell → ClearmapNear → Type 0
MeansNear distance Obstacle cell near = IsNear distance Obstacle cell.x cell.y (near_kept near)

-- the first values mean the nearest obstacles of the cells of a list, in order
pub record AreNearsOf (distance : ℕ → ℕ → ℕ) (Obstacle : ℤ → ℤ → Type 0) (asked : List Cell)
    (nears : List ClearmapNear) : Type 0 where
  pub each : (i : ℕ) → i < length asked → MeansNear distance Obstacle (cell_of_list asked i)
      (slice_index_or nears i kept_nothing)

-- this nearest obstacle of a cell is nearer than d
pub record IsNearer (distance : ℕ → ℕ → ℕ) (Obstacle : ℤ → ℤ → Type 0) (cell : Cell) (d : ℕ)
    (near : Near) : Type 0 where
  pub near_is : IsNearest distance Obstacle cell.x cell.y near
  pub nearer : near.dist < d

-- what a byte says of a cell: 1, that it has no obstacle nearer than d, or 0, that it has one
abbrev pub SaysClear : (ℕ → ℕ → ℕ) → (ℤ → ℤ → Type 0) → Cell → ℕ → ℕ → Type 0
SaysClear distance Obstacle cell d byte =
    ((byte ≡ 1) × ((near : Near) → IsNearer distance Obstacle cell d near → ⊥))
    ⊎ ((byte ≡ 0) × ((near : Near) × IsNearer distance Obstacle cell d near))

-- the first bytes say which cells of a list are clear of d, in order
pub record AreClearOf (distance : ℕ → ℕ → ℕ) (Obstacle : ℤ → ℤ → Type 0) (asked : List Cell)
    (d : ℕ) (bytes : List ℕ) : Type 0 where
  pub each : (i : ℕ) → i < length asked → SaysClear distance Obstacle (cell_of_list asked i) d
      (slice_index bytes i)
