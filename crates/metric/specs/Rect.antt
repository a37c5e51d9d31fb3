-- Rectangles of cells: this project's own rule.
use Rattle.std.specs.Prelude.{ℕ, ◌<◌, ◌≤◌}

-- these corners make a rectangle: it has a cell, and is within the largest map
pub record IsRect (x0 y0 x1 y1 : ℕ) : Type 0 where
  pub columns : x0 < x1
  pub rows : y0 < y1
  pub right : x1 ≤ 4096
  pub bottom : y1 ≤ 4096
