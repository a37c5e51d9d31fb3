-- A cell's nearest obstacle, or only its distance, as C sees it: this project's own rule. Where
-- there is no obstacle, the distance is the largest 32-bit number.
use Rattle.std.specs.Prelude.{ℕ, ◌==◌, ◌&&◌, negsuc, Bool, Option, Some, None, option_map}
use Rattle.std.specs.Prelude.{if◌then◌else◌}
use Rattle.std.specs.Ordering.{int_eq}
use Rattle.metric.specs.declared.cell.Cell.{Cell}
use Rattle.metric.specs.declared.near.Near.{Near}
use Rattle.libclearmap.specs.declared.near.ClearmapNear.{ClearmapNear}
use Rattle.libclearmap.specs.declared.near.ClearmapFound.{ClearmapFound}

-- the value that means no obstacle
abbrev pub kept_nothing : ClearmapNear
kept_nothing = record { dist = 4294967295; x = negsuc 1; y = negsuc 1 }

-- whether a value is the one that means no obstacle: each of its numbers is that one's
abbrev pub is_nothing : ClearmapNear → Bool
is_nothing kept = kept.dist == kept_nothing.dist
    && (int_eq kept.x kept_nothing.x && int_eq kept.y kept_nothing.y)

-- the nearest obstacle that a value means, or none
abbrev pub near_kept : ClearmapNear → Option Near
near_kept kept = if is_nothing kept then None else Some
    (record { dist = kept.dist; cell = record { x = kept.x; y = kept.y } })

-- the cell that was found and its nearest obstacle, or none
abbrev pub found_kept : ClearmapFound → Option (Cell × Near)
found_kept kept = option_map (λ near. (kept.cell, near)) (near_kept kept.near)

-- the distance that a number means, or none
abbrev pub distance_kept : ℕ → Option ℕ
distance_kept number = if number == 4294967295 then None else Some number
