-- Each call works fewer bands.
use Rattle.std.proofs.Common.{◌+◌, ◌-◌, ◌*◌}
use Rattle.field.proofs.bands.+bands.Given as goal

abbrev pub decreases-work_bands : goal.decreases-work_bands
decreases-work_bands g l = 4 * (l.below - l.above)

abbrev pub decreases-work_beside : goal.decreases-work_beside
decreases-work_beside g l = 4 * (l.halves.below - l.halves.above) - 1

abbrev pub decreases-work_beside-first : goal.decreases-work_beside-first
decreases-work_beside-first g l = 4 * (l.middle - l.above) + 1

abbrev pub decreases-work_beside-second : goal.decreases-work_beside-second
decreases-work_beside-second g l = 4 * (l.below - l.middle) + 1
