-- No announcement before this one keeps the version.
use Rattle.events.proofs.Names.{◌≡◌, drop, list_any, asks}
use Rattle.events.proofs.kept.is_stay.Given as goal

abbrev pub invariant-loop-entry : goal.invariant-loop-entry
invariant-loop-entry l =
    list_any (λ o. asks o l.version) (drop l.entry-index l.seen)
    ≡ list_any (λ o. asks o l.version) l.seen
