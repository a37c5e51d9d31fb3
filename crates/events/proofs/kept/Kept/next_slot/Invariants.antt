-- Each slot before this one has a version.
use Rattle.std.proofs.Common.{ℕ, ◌<◌, get_or}
use Rattle.events.proofs.kept.Kept.next_slot.Given as goal

abbrev pub invariant-loop-slot : goal.invariant-loop-slot
invariant-loop-slot l = (j : ℕ) → j < l.slot → 0 < get_or l.self.slots j 0
