-- The limits of a setting: this project's own rule.
use Rattle.std.specs.Prelude.{ℕ, Bool, ◌&&◌, nat_le, Option, Some, None, if◌then◌else◌}
use Rattle.metric.specs.declared.refusal.Field.{Field}
use Rattle.metric.specs.declared.refusal.Field.TheVariants as fields
use Rattle.events.specs.declared.setting.Setting.{Setting}

-- whether a number is within its limits
abbrev pub is_between : ℕ → ℕ → ℕ → Bool
is_between low high n = nat_le low n && nat_le n high

-- the first field of a setting out of its limits for a map of this many tiles; none if all are in
unfoldable pub bad_field : ℕ → Setting → Option Field
bad_field tiles g =
    if is_between tiles 16384 g.blocks
    then (if is_between 2 64 g.versions
    then (if is_between 1 64 g.sessions
    then (if is_between 1 1048576 g.log then None else Some fields.Log) else Some fields.Sessions)
    else Some fields.Versions) else Some fields.Blocks
