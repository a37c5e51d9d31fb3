-- Left of these columns; or in fewer rows, in the first of them or where those to the left are far.
use Rattle.std.proofs.Common.{inl, inr, arith}
use Rattle.std.proofs.lemmas.Bool.Decides.{nat_tests}
use Rattle.std.proofs.lemmas.Grind.{common_steps}
use Rattle.clearance.proofs.first.comes_first.Goals as goal

pub returns-then-best-x : goal.returns-then-best-x
returns-then-best-x g c = λ yes. rw c.in-Some.is (inl (c.if-best-x.true))

pub returns-then-best-x-2 : goal.returns-then-best-x-2
returns-then-best-x-2 g c = λ yes. rw c.in-Some.is (inr (omega arith, inl (c.if-best-x-2.true)))

pub returns-else-best-x-2 : goal.returns-else-best-x-2
returns-else-best-x-2 g c = λ yes.
    rw c.in-Some.is (inr (omega arith, inr (grind (arith, nat_tests, common_steps))))
