-- Which rings of corners are convex polygons: this project's own rule. A ring turns from x to y at
-- each corner, by less than half a turn, and goes round once.
use Rattle.std.specs.Prelude.{ℕ, zero, suc, ◌+◌, ◌-◌, ◌*◌, ◌/◌, ◌%◌, ◌&&◌, ◌||◌, ◌==◌, nat_lt}
use Rattle.std.specs.Prelude.{not, Bool, true, ℤ, pos, negsuc, int_lt, List, [], ◌∷◌, length, take}
use Rattle.std.specs.Prelude.{drop, slice_index_or, Option, Some, None, if◌then◌else◌}
use Rattle.std.specs.List.{list_all}
use Rattle.footprint.specs.declared.corner.Corner.{Corner}
use Rattle.footprint.specs.declared.polygon.PolygonFault.{PolygonFault}
use Rattle.footprint.specs.declared.polygon.PolygonFault.TheVariants.{Bent, Far, Number}
use Rattle.footprint.specs.Polygon.{cross, last_of}

-- whether a number of steps is 2^30 or more, either way
abbrev pub is_far_off : ℤ → Bool
is_far_off steps = int_lt steps (negsuc 1073741822) || int_lt (pos 1073741823) steps

-- whether a corner is less than 16,384 columns and rows away
abbrev pub is_near : Corner → Bool
is_near a = not (is_far_off a.x) && not (is_far_off a.y)

-- whether a ring turns from x to y at b, to which it comes from a, and at each later corner but the
-- last
abbrev pub turns_from : Corner → Corner → List Corner → Bool
turns_from a b [] = true
turns_from a b (c ∷ rest) = int_lt (pos 0) (cross a b c.x c.y) && turns_from b c rest

-- whether the side from a to b leads to a greater row
abbrev pub goes_down : Corner → Corner → Bool
goes_down a b = int_lt a.y b.y

-- how many sides from b on go down after one that doesn't, where the side before leads from a to b
abbrev pub turns_down_from : Corner → Corner → List Corner → ℕ
turns_down_from a b [] = 0
turns_down_from a b (c ∷ rest) =
    (if goes_down b c && not (goes_down a b) then 1 else 0) + turns_down_from b c rest

-- the corner before the last
abbrev pub before_last : List Corner → Corner
before_last ring = slice_index_or ring (length ring - 2) (record { x = pos 0; y = pos 0 })

-- whether a ring is convex. No turn is half a turn, so the sides' directions pass all that lead down
-- once for each time that it goes round: just one side goes down after one that doesn't
abbrev pub is_convex : List Corner → Bool
is_convex ring = turns_from (before_last ring) (last_of ring) ring
    && turns_down_from (before_last ring) (last_of ring) ring == 1

-- what is wrong with a ring, or nothing
abbrev pub polygon_fault : List Corner → Option PolygonFault
polygon_fault ring =
    if nat_lt (length ring) 3 || nat_lt 128 (length ring) then Some Number
    else if not (list_all is_near ring) then Some Far
    else if not (is_convex ring) then Some Bent
    else None

-- the corners of the polygon at an index, where each has this many
abbrev pub polygon_at : List Corner → ℕ → ℕ → List Corner
polygon_at corners count k = take count (drop (count * k) corners)

-- whether the first polygons are convex, as many as asked for
abbrev pub are_convex : List Corner → ℕ → ℕ → Bool
are_convex corners count zero = true
are_convex corners count (suc k) =
    are_convex corners count k && is_convex (polygon_at corners count k)

-- what is wrong with polygons of this many corners each, or nothing
abbrev pub polygons_fault : List Corner → ℕ → Option PolygonFault
polygons_fault corners count =
    if (nat_lt count 3 || nat_lt 128 count) || not (length corners % count == 0) then Some Number
    else if not (list_all is_near corners) then Some Far
    else if not (are_convex corners count (length corners / count)) then Some Bent
    else None
