-- What a call tells of a polygon, and what is wrong with it: this project's own rule.
use Rattle.std.specs.Prelude.{◌≡◌, ℕ, ◌/◌, ◌<◌, ◌⊎◌, nat_lt, List, length, slice_index}
use Rattle.std.specs.Prelude.{Option, Some, None, if◌then◌else◌}
use Rattle.metric.specs.declared.edge.Edge.{Edge}
use Rattle.bits.specs.Cells.{Cells}
use Rattle.footprint.specs.Convex.{polygon_at, polygon_fault, polygons_fault}
use Rattle.footprint.specs.Polygon.{Hits}
use Rattle.footprint.specs.declared.corner.Corner.{Corner}
use Rattle.footprint.specs.declared.polygon.PolygonFault.{PolygonFault}
use Rattle.footprint.specs.declared.polygon.PolygonFault.TheVariants.{Bent, Far, Number}
use Rattle.libclearmap.specs.Statuses.{first_wrong, room_status}

-- 5: no edge has this number
abbrev pub edge_status : ℕ → ℕ
edge_status edge = if nat_lt 1 edge then 5 else 0

-- 14: it has under 3 corners, or over 128; 15: a corner is too far away; 16: it isn't convex
abbrev pub fault_status : Option PolygonFault → ℕ
fault_status None = 0
fault_status (Some Number) = 14
fault_status (Some Far) = 15
fault_status (Some Bent) = 16

-- what is wrong with a polygon
abbrev pub polygon_status : List Corner → ℕ
polygon_status ring = fault_status (polygon_fault ring)

-- what is wrong with a call for one polygon
abbrev pub hits_status : ℕ → List Corner → ℕ
hits_status edge ring = first_wrong (edge_status edge) (polygon_status ring)

-- a byte is 1 where the polygon hits the map, and 0 where it doesn't
abbrev pub SaysHit : Cells → Edge → List Corner → ℕ → Type 0
SaysHit cells edge ring byte =
    ((byte ≡ 1) × Hits cells edge ring) ⊎ ((byte ≡ 0) × (Hits cells edge ring → ⊥))

-- what is wrong with a call for polygons of this many corners each, and room for some answers
abbrev pub hits_many_status : ℕ → List Corner → ℕ → ℕ → ℕ
hits_many_status edge corners count room = first_wrong (edge_status edge)
    (first_wrong (fault_status (polygons_fault corners count))
    (room_status (length corners / count) room))

-- the first of some polygons of this many corners each have a byte that says whether they hit the map
abbrev pub AreSaid : Cells → Edge → List Corner → ℕ → ℕ → List ℕ → Type 0
AreSaid cells edge corners count first bytes = (k : ℕ) → k < first
    → SaysHit cells edge (polygon_at corners count k) (slice_index bytes k)

-- each of the polygons has such a byte
abbrev pub SayHits : Cells → Edge → List Corner → ℕ → List ℕ → Type 0
SayHits cells edge corners count bytes =
    AreSaid cells edge corners count (length corners / count) bytes
