-- What a call searches a map for, and what it finds: this project's own rule.
use Rattle.std.specs.Prelude.{ℕ, ℤ, Option}
use Rattle.metric.specs.declared.cell.Cell.{Cell}
use Rattle.metric.specs.declared.near.Near.{Near}
use Rattle.bits.specs.Cells.{Cells}
use Rattle.clearance.specs.Answers.{IsClearOf, IsLeastOf, cells_of_rect}
use Rattle.clearance.specs.Paths.{cells_of_path}
use Rattle.libclearmap.specs.Statuses.{path_status, rect_status}
use Rattle.libclearmap.specs.declared.search.Search.{Search}
use Rattle.libclearmap.specs.declared.search.Search.TheVariants.{ClearOf, Least, Path}

-- what a search finds, by a distance to obstacles: a cell with its nearest obstacle, or none
abbrev pub IsFound : (ℕ → ℕ → ℕ) → (ℤ → ℤ → Type 0) → Search → Option (Cell × Near) → Type 0
IsFound distance Obstacle (Least corners) found =
    IsLeastOf distance Obstacle (cells_of_rect corners.x0 corners.y0 corners.x1 corners.y1) found
IsFound distance Obstacle (Path points) found =
    IsLeastOf distance Obstacle (cells_of_path points.now) found
IsFound distance Obstacle (ClearOf points d) found =
    IsClearOf distance Obstacle (cells_of_path points.now) d found

-- what is wrong with a search
abbrev pub search_status : Cells → Search → ℕ
search_status cells (Least corners) =
    rect_status cells corners.x0 corners.y0 corners.x1 corners.y1
search_status cells (Path points) = path_status cells points.now
search_status cells (ClearOf points d) = path_status cells points.now
