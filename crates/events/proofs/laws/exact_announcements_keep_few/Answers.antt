-- After any legal log each kept version stands in one slot, and then exact announcements keep few.
use Rattle.events.proofs.invariants.TidyLog.{slots_apart}
use Rattle.events.proofs.logs.KeptAfter.{few_after}
use Rattle.events.proofs.laws.exact_announcements_keep_few.Goals as goal

pub returns-clause-apart : goal.returns-clause-apart
returns-clause-apart c = λ k log ready legal. slots_apart k log ready legal

pub returns-clause-few : goal.returns-clause-few
returns-clause-few c =
    λ k log seen ready legal exact. few_after _ _ seen (slots_apart k log ready legal) exact
