-- No slot before this one has a version from the first to the last.
use Rattle.std.proofs.Common.{◌≡◌, drop}
use Rattle.events.specs.Kept.{members, is_spanned}
use Rattle.events.proofs.kept.Kept.spans.Given as goal

abbrev pub invariant-loop-slot : goal.invariant-loop-slot
invariant-loop-slot l =
    is_spanned (members (drop l.slot-index l.self.slots)) l.first l.last
    ≡ is_spanned (members l.self.slots) l.first l.last
