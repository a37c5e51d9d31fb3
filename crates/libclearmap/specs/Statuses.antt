-- What is wrong with a call, as a number: this project's own rule. Of several faults it is the
-- first, in the order of their numbers up to 9, with 12 after 3 and 13 after 5; then comes 11, and
-- 10 comes last.
use Rattle.std.specs.Prelude.{◌≡◌, ℕ, zero, suc, ◌+◌, ◌-◌, ◌*◌, ◌^◌, ◌&&◌, ◌||◌, ◌⊎◌, ◌==◌, nat_le}
use Rattle.std.specs.Prelude.{◌≢◌, Err, Ok, Result}
use Rattle.std.specs.Prelude.{nat_lt, not, Bool, List, length, Option, Some, None, if◌then◌else◌}
use Rattle.std.specs.List.{list_any}
use Rattle.metric.specs.declared.cell.Cell.{Cell}
use Rattle.metric.specs.declared.refusal.Refusal.{Refusal}
use Rattle.metric.specs.declared.refusal.Refusal.TheVariants.{BadPath, OutOfRange}
use Rattle.bits.specs.Cells.{Cells}
use Rattle.bits.specs.Words.{words_across}
use Rattle.clearance.specs.Paths.{is_outside, path_refusal}
use Rattle.libclearmap.specs.declared.layout.ClearmapBytes.{ClearmapBytes}
use Rattle.libclearmap.specs.declared.layout.ClearmapBits.{ClearmapBits}
use Rattle.libclearmap.specs.Layouts.{bands_down, rows_end}

-- the first of two statuses that isn't 0; 0 means that nothing is wrong
abbrev pub first_wrong : ℕ → ℕ → ℕ
first_wrong zero next = next
first_wrong (suc n) next = suc n

-- a check with this status refuses what is wrong
abbrev pub IsChecked : Result (Unit {0}) ℕ → ℕ → Type 0
IsChecked (Ok done) status = status ≡ 0
IsChecked (Err wrong) status = (wrong ≡ status) × (wrong ≢ 0)

-- whether a side is 1 to 4096 cells long
abbrev pub is_side : ℕ → Bool
is_side count = nat_le 1 count && nat_le count 4096

-- 1: a side is out of its limits; 2: the stride is; 3: the memory ends before the map does
abbrev pub shape_status : ℕ → ℕ → ℕ → ℕ → ℕ → ℕ
shape_status width height across stride count =
    if not (is_side width && is_side height) then 1
    else if nat_lt stride across || nat_le (2 ^ 32) stride then 2
    else if nat_lt count ((height - 1) * stride + across) then 3
    else 0

-- what is wrong with a map in bytes
abbrev pub bytes_status : ClearmapBytes → List ℕ → ℕ
bytes_status map bytes = shape_status map.width map.height map.width map.stride (length bytes)

-- 12: marks of tiles from an index on lie among the rows, or the memory ends before they do
abbrev pub marks_status : ℕ → ClearmapBits → ℕ → ℕ
marks_status tiles map count =
    if nat_lt tiles (rows_end map) || nat_lt count (tiles + bands_down map) then 12 else 0

-- what is wrong with the marks of a map's tiles; nothing is where it has none
abbrev pub tiles_status : ClearmapBits → ℕ → ℕ
tiles_status map count = if map.tiles == 0 then 0 else marks_status map.tiles map count

-- what is wrong with a map in bits
abbrev pub bits_status : ClearmapBits → List ℕ → ℕ
bits_status map words = first_wrong (shape_status map.width map.height (words_across map.width)
    map.stride (length words)) (tiles_status map (length words))

-- 4: no metric has this number; 5: no edge has this number
abbrev pub setting_status : ℕ → ℕ → ℕ
setting_status metric edge = if nat_lt 2 metric then 4 else if nat_lt 1 edge then 5 else 0

-- 7: the cell isn't in the map
abbrev pub cell_status : Cells → ℕ → ℕ → ℕ
cell_status cells x y = if nat_lt x cells.width && nat_lt y cells.height then 0 else 7

-- 7: one of the cells isn't in the map
abbrev pub cells_status : Cells → List Cell → ℕ
cells_status cells asked = if list_any (is_outside cells) asked then 7 else 0

-- 7: the rectangle has no cell, or isn't wholly within the map
abbrev pub rect_status : Cells → ℕ → ℕ → ℕ → ℕ → ℕ
rect_status cells x0 y0 x1 y1 = if (nat_lt x0 x1 && nat_le x1 cells.width)
    && (nat_lt y0 y1 && nat_le y1 cells.height) then 0 else 7

-- 6: a path has too few or too many points; 7: a point isn't in the map; 8: a point is crooked
abbrev pub refusal_status : Refusal → ℕ
refusal_status BadPath = 6
refusal_status OutOfRange = 7
refusal_status _ = 8

-- the status of a refusal, if there is one
abbrev pub refused_status : Option Refusal → ℕ
refused_status None = 0
refused_status (Some refusal) = refusal_status refusal

-- what is wrong with a path
abbrev pub path_status : Cells → List Cell → ℕ
path_status cells points = refused_status (path_refusal cells points)

-- 7: the range of rows ends before it starts, or isn't wholly within the map
abbrev pub rows_status : Cells → ℕ → ℕ → ℕ
rows_status cells y0 y1 = if nat_le y0 y1 && nat_le y1 cells.height then 0 else 7

-- 9: the output has capacity for fewer answers than there are
abbrev pub room_status : ℕ → ℕ → ℕ
room_status needed count = if nat_le needed count then 0 else 9

-- 11: no byte marks an obstacle, since the least that does is above the greatest
abbrev pub range_status : ClearmapBytes → ℕ
range_status map = if nat_le map.low map.high then 0 else 11

-- 13: a table of costs has no entry
abbrev pub entries_status : ℕ → ℕ
entries_status count = if count == 0 then 13 else 0

-- a call that allocates memory has the expected status, or 10 (out of memory) in place of 0
abbrev pub IsStatus : ℕ → ℕ → Type 0
IsStatus expected status = (status ≡ expected) ⊎ ((expected ≡ 0) × (status ≡ 10))

-- what is wrong with a call for all cells of a range of rows, with capacity for this many answers
abbrev pub table_status : Cells → ℕ → ℕ → ℕ → ℕ → ℕ → ℕ
table_status cells metric edge y0 y1 count = first_wrong (setting_status metric edge)
    (first_wrong (rows_status cells y0 y1) (room_status ((y1 - y0) * cells.width) count))

-- what is wrong with a call for the costs of all cells of a range of rows, by this many costs
abbrev pub costs_status : Cells → ℕ → ℕ → ℕ → ℕ → ℕ → ℕ → ℕ
costs_status cells metric edge entries y0 y1 count = first_wrong (setting_status metric edge)
    (first_wrong (entries_status entries) (first_wrong (rows_status cells y0 y1)
    (room_status ((y1 - y0) * cells.width) count)))

-- what is wrong with a call for the cells of a list, with capacity for this many answers
abbrev pub many_status : Cells → ℕ → ℕ → List Cell → ℕ → ℕ
many_status cells metric edge asked count = first_wrong (setting_status metric edge)
    (first_wrong (cells_status cells asked) (room_status (length asked) count))
