-- One more slot has what it has after a collect, and then all have; what stays is what the
-- announcements keep.
use native.Mathlib.Numerals.{unary_clauses}
use Rattle.events.proofs.Names.{rules, ap, arith, Kept}
use Rattle.events.proofs.logs.KeptAfter.{newest_after, exact_after, from_after, few_after}
use Rattle.events.proofs.logs.KeptLemmas.{set-changed, changed-all, part-after}
use Rattle.events.proofs.kept.Kept.after.Goals as goal

pub loop-place-preserved : goal.loop-place-preserved
loop-place-preserved c =
    rw (c.slot_after.ensures, c.loop-place.invariant)
    (simp unary_clauses (set-changed _ _ _ (omega arith)))

pub returns-clause-kept : goal.returns-clause-kept
returns-clause-kept c = search (rules, changed-all)

pub returns-clause-newest : goal.returns-clause-newest
returns-clause-newest c = rw (returns-clause-kept c) (newest_after _ _ c.args.seen.now)

pub returns-clause-exact : goal.returns-clause-exact
returns-clause-exact c = rw (returns-clause-kept c) (exact_after _ _ _)

pub returns-clause-from : goal.returns-clause-from
returns-clause-from c = rw (returns-clause-kept c) (from_after _ _ _)

pub returns-clause-part : goal.returns-clause-part
returns-clause-part c =
    rw (ap (λ (k : Kept). k.slots) (returns-clause-kept c)) (part-after _ c.args.seen.now _)

pub returns-clause-few : goal.returns-clause-few
returns-clause-few c =
    rw (ap (λ (k : Kept). k.slots) (returns-clause-kept c)) (few_after _ _ c.args.seen.now)
