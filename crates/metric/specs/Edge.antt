-- The edges of a map, by name: this project's own rule.
use Rattle.std.specs.Prelude.{ℕ, zero, suc, ℤ, pos, negsuc, List, Option, Some, None, bytes_eq}
use Rattle.std.specs.Prelude.{codes, if◌then◌else◌}
use Rattle.metric.specs.declared.edge.Edge.{Edge}
use Rattle.metric.specs.declared.edge.Edge.TheVariants.{Open, Wall}
use Rattle.metric.specs.declared.spot.Spot.{Spot}

-- each edge has a name
abbrev pub edge_named : List ℕ → Option Edge
edge_named name =
    if bytes_eq name (codes "open") then Some Open
    else if bytes_eq name (codes "wall") then Some Wall
    else None

-- by how many columns and rows a cell shifts when the frame counts too
abbrev pub shift : Edge → ℕ
shift Open = 0
shift Wall = 1

-- the integer that is one less than the natural number
abbrev pub less_one : ℕ → ℤ
less_one zero = negsuc 0
less_one (suc n) = pos n

-- the spot of a cell that is counted with the frame
abbrev pub spot_of : Edge → ℕ → ℕ → Spot
spot_of Open a b = record { x = pos a; y = pos b }
spot_of Wall a b = record { x = less_one a; y = less_one b }
