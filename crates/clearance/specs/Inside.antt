-- The first obstacle in a rectangle, row by row: this project's own rule.
use Rattle.std.specs.Prelude.{◌≡◌, ℕ, ◌/◌, ◌%◌, ◌<◌, ◌≤◌}
use Rattle.std.specs.Int.{bit_at}
use Rattle.metric.specs.declared.cell.Cell.{Cell}
use Rattle.metric.specs.declared.rect.Rect.{Rect}
use Rattle.bits.specs.Cells.{Cells, IsObstacle}
use Rattle.clearance.specs.Search.{IsInRect}

-- a cell of the rectangle is an obstacle
pub record HasObstacle (cells : Cells) (rect : Rect) : Type 0 where
  pub x : ℕ
  pub y : ℕ
  pub cell : IsInRect rect x y
  pub obstacle : IsObstacle cells x y

-- no row of the rectangle above a cell has an obstacle, nor has its row one before it
pub record IsFirstObstacle (cells : Cells) (rect : Rect) (first : Cell) : Type 0 where
  pub cell : IsInRect rect first.x first.y
  pub obstacle : IsObstacle cells first.x first.y
  pub above : (a b : ℕ) → IsInRect rect a b → b < first.y → IsObstacle cells a b → ⊥
  pub before : (a : ℕ) → rect.x0 ≤ a → a < first.x → IsObstacle cells a first.y → ⊥

-- column x is that of the first obstacle of a row in the rectangle's columns
pub record IsFirstInRow (cells : Cells) (rect : Rect) (y x : ℕ) : Type 0 where
  pub left : rect.x0 ≤ x
  pub right : x < rect.x1
  pub obstacle : IsObstacle cells x y
  pub before : (a : ℕ) → rect.x0 ≤ a → a < x → IsObstacle cells a y → ⊥

-- the same for the obstacles of a tile's word
pub record IsFirstInWord (rect : Rect) (tile word x : ℕ) : Type 0 where
  pub left : rect.x0 ≤ x
  pub right : x < rect.x1
  pub here : x / 64 ≡ tile
  pub bit : bit_at word (x % 64) ≡ 1
  pub before : (a : ℕ) → rect.x0 ≤ a → a < x → a / 64 ≡ tile → bit_at word (a % 64) ≡ 1 → ⊥
