-- The slots before this one have lowered the version.
use Rattle.std.proofs.Common.{◌≡◌, ◌≤◌, drop, fold}
use Rattle.events.specs.Kept.{lowered}
use Rattle.events.proofs.kept.Kept.least.Given as goal

abbrev pub invariant-loop-slot : goal.invariant-loop-slot
invariant-loop-slot l =
    (fold lowered l.least (drop l.slot-index l.self.slots) ≡ fold lowered l.newest l.self.slots)
    × (l.least ≤ l.newest)
