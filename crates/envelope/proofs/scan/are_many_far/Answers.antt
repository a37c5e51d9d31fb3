-- The current column counts only if it has an obstacle.
use Rattle.std.proofs.Common.{inl, inr, arith}
use Rattle.std.proofs.lemmas.Bool.{cases_lt}
use Rattle.envelope.proofs.scan.are_many_far.Goals as goal

pub columns-preserved : goal.columns-preserved
columns-preserved c = record {
  few = omega (arith, c.columns.invariant.few, c.one_if_far-count.ensures.few);
  some = λ some. elim (cases_lt 0 c.columns.count) [
    | inl before ↦ c.columns.invariant.some before
    | inr none ↦ (
      c.columns.column,
      record {
        left = c.columns-test.true;
        some = c.one_if_far-count.ensures.some (omega (arith, some, none));
      },
    )
  ];
}
