-- The slots before this one are counted.
use Rattle.events.proofs.Names.{◌≡◌, ◌+◌, ◌≤◌, length, drop, members}
use Rattle.events.proofs.kept.Kept.count.Given as goal

abbrev pub invariant-loop-slot : goal.invariant-loop-slot
invariant-loop-slot l =
    (l.count + length (members (drop l.slot-index l.self.slots)) ≡ length (members l.self.slots))
    × (l.count ≤ l.slot-index)
