-- A table in memory of a map: this project's own rule.
use Rattle.std.specs.Prelude.{◌≡◌, ℕ, ◌*◌, ◌/◌, ◌%◌, ◌<◌, ◌≤◌, ◌==◌, pos, List, Bool}
use Rattle.std.specs.Prelude.{map, Option, Some, None, if◌then◌else◌}
use Rattle.std.specs.List.{range_with_len}
use Rattle.metric.specs.declared.edge.Edge.{Edge}
use Rattle.metric.specs.declared.near.Near.{Near}
use Rattle.bits.specs.Cells.{Cells}
use Rattle.field.specs.Distances.{Distances, number_at}
use Rattle.field.specs.Obstacles.{Obstacles}
use Rattle.field.specs.Rows.{AreNears}
use Rattle.printing.specs.Table.{entry_text}

-- contracts see a table's size, whether it has obstacles, and what it has of all cells, in
-- row-major order: the nearest obstacles, or spots of these distances
pub record TableView : Type 0 where
  pub width : ℕ
  pub height : ℕ
  pub nearest : Bool
  pub nears : List (Option Near)

-- contracts see a writer's table, and in how many parts its lines are made
pub record WriterView : Type 0 where
  pub table : TableView
  pub parts : ℕ

-- each distance within a map and its frame is below the number that means none
abbrev pub IsBelowNone : (ℕ → ℕ → ℕ) → Type 0
IsBelowNone distance = (columns rows : ℕ) → columns ≤ 4097 → rows ≤ 4097
    → distance columns rows < 4294967295

-- some spot at this distance, or none for the largest 32-bit number
abbrev pub some_near : ℕ → Option Near
some_near number =
    if number == 4294967295 then None
    else Some (record { dist = number; cell = record { x = pos 0; y = pos 0 } })

-- some spots at the distances of a table's cells, in row-major order
abbrev pub some_nears : ℕ → ℕ → Distances → List (Option Near)
some_nears width height table =
    map (λ k. some_near (number_at table (k % width) (k / width)))
    (range_with_len 0 (height * width))

-- these are the obstacles of all rows of a map of this size, by this distance
pub record HasAllRows (distance : ℕ → ℕ → ℕ) (width height : ℕ) (obstacles : Obstacles) :
    Type 0 where
  pub below : IsBelowNone distance
  pub across : obstacles.width ≡ width
  pub from : obstacles.y0 ≡ 0
  pub to : obstacles.y1 ≡ height

-- these are the distances of all rows of a map of this size, in 32 bits
pub record HasAllNumbers (width height : ℕ) (distances : Distances) : Type 0 where
  pub across : distances.width ≡ width
  pub from : distances.y0 ≡ 0
  pub to : distances.y1 ≡ height
  pub few : (x y : ℕ) → x < width → y < height → number_at distances x y ≤ 4294967295

-- the map has the table's size, and what is written of the table's cells is what is written of the
-- nearest obstacles by this distance and edge
pub record IsTableOf (distance : ℕ → ℕ → ℕ) (edge : Edge) (cells : Cells) (table : TableView) :
    Type 0 where
  pub width_is : table.width ≡ cells.width
  pub height_is : table.height ≡ cells.height
  pub nears : List (Option Near)
  pub rows : AreNears distance cells edge 0 cells.height nears
  pub told : map (entry_text table.nearest) nears ≡ map (entry_text table.nearest) table.nears
