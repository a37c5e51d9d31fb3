-- The effect of a command on the draft: this project's own rule. Paint and stamp set cells to
-- values; the other commands set none.
use Rattle.std.specs.Prelude.{ℕ, ◌+◌, ◌-◌, ◌==◌, ◌&&◌, nat_le, Bool, true, false, not, List, map}
use Rattle.std.specs.Prelude.{Option, Some, None, unwrap_or, if◌then◌else◌}
use Rattle.std.specs.List.{list_any, range_with_len}
use Rattle.bits.specs.Cells.{Cells, has, cells_where, is_within}
use Rattle.bits.specs.Changes.{changes}
use Rattle.bits.specs.Tiles.{tile_count, row_word}
use Rattle.events.specs.declared.command.Command.{Command}
use Rattle.events.specs.declared.command.Command.TheVariants.{Paint, Stamp, Publish, Revert}
use Rattle.events.specs.declared.command.Command.TheVariants.{Collect, Checkpoint}

-- the value that a command sets cell (x, y) to; none if it leaves the cell
abbrev pub value_given : Command → ℕ → ℕ → Option Bool
value_given (Paint r black) x y = if is_within r.x0 r.y0 r.x1 r.y1 x y then Some black else None
value_given (Stamp x0 y0 b) x y =
    if is_within x0 y0 (x0 + b.width) (y0 + b.height) x y then Some (has b (x - x0) (y - y0))
    else None
value_given Publish x y = None
value_given Revert x y = None
value_given Collect x y = None
value_given Checkpoint x y = None

-- the draft after a command has set its values
unfoldable pub drawn : Cells → Command → Cells
drawn draft c =
    cells_where draft.width draft.height (λ x y. unwrap_or (value_given c x y) (has draft x y))

-- how many cells of the draft change
abbrev pub cells_changed : Cells → Command → ℕ
cells_changed draft c = changes draft (drawn draft c)

-- whether the area of a command lies within a map of this size; true for a command without an area
abbrev pub lies_within : ℕ → ℕ → Command → Bool
lies_within width height (Paint r black) = nat_le r.x1 width && nat_le r.y1 height
lies_within width height (Stamp x y b) = nat_le (x + b.width) width && nat_le (y + b.height) height
lies_within width height Publish = true
lies_within width height Revert = true
lies_within width height Collect = true
lies_within width height Checkpoint = true

-- whether the area of a command lies within the map
abbrev pub is_inside : Cells → Command → Bool
is_inside draft c = lies_within draft.width draft.height c

-- whether a command is a paint or a stamp
abbrev pub draws : Command → Bool
draws (Paint r black) = true
draws (Stamp x y b) = true
draws Publish = false
draws Revert = false
draws Collect = false
draws Checkpoint = false

-- the command is a paint or a stamp
abbrev pub IsDraw : Command → Type 0
IsDraw (Paint r black) = Unit {0}
IsDraw (Stamp x y b) = Unit {0}
IsDraw c = ⊥

-- whether a cell of the tile at position k differs: then a row of it does
unfoldable pub tile_differs : Cells → Cells → ℕ → Bool
tile_differs old new k =
    list_any (λ i. not (row_word old k i == row_word new k i)) (range_with_len 0 64)

-- for each position whether a cell of it differs
abbrev pub differing : Cells → Cells → List Bool
differing old new = map (tile_differs old new) (range_with_len 0 (tile_count old))

-- for each position whether a command changes a cell of it
unfoldable pub touched : Cells → Command → List Bool
touched draft c = differing draft (drawn draft c)
