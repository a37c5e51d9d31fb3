-- The slots before this one have what they have after a collect.
use Rattle.events.proofs.Names.{◌≡◌, slot_after}
use Rattle.events.proofs.logs.KeptLemmas.{changed}
use Rattle.events.proofs.kept.Kept.after.Given as goal

abbrev pub invariant-loop-place : goal.invariant-loop-place
invariant-loop-place l = l.slots ≡ changed (slot_after l.newest l.seen) l.place l.fn.self.slots
