-- Rectangles of a line: this project's own rule.
use Rattle.std.specs.Prelude.{ℕ, ◌&&◌, nat_lt, nat_le, Option, Some, None, if◌then◌else◌}
use Rattle.metric.specs.declared.cell.Cell.{Cell}
use Rattle.metric.specs.declared.rect.Rect.{Rect}

-- the corners of a half-open rectangle: its first column and row, and those after its last
pub record Corners : Type 0 where
  pub x0 : ℕ
  pub y0 : ℕ
  pub x1 : ℕ
  pub y1 : ℕ

-- the corners of a rectangle of the program
abbrev pub seen_corners : Rect → Corners
seen_corners r = record { x0 = r.x0; y0 = r.y0; x1 = r.x1; y1 = r.y1 }

-- two points are a rectangle's corners if neither is over 4096 and there is a cell between them
abbrev pub corners_of : Cell × Cell → Option Corners
corners_of points =
    if (nat_lt points.0.x points.1.x && nat_lt points.0.y points.1.y)
    && (nat_le points.1.x 4096 && nat_le points.1.y 4096)
    then Some record { x0 = points.0.x; y0 = points.0.y; x1 = points.1.x; y1 = points.1.y }
    else None
