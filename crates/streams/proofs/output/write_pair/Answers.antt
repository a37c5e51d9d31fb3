-- Where a write fails, a prefix of the two texts is written: some of the first, or all of it and
-- some of the second.
use Rattle.std.proofs.lemmas.Result.{err_from_is_err_and, on_err_weaker}
use Rattle.streams.proofs.RefusalLines.{front_first, front_second}
use Rattle.std.proofs.lemmas.Grind.{common_steps}
use Rattle.std.proofs.Common.{arith}
use Rattle.streams.proofs.output.write_pair.Goals as goal

pub returns-in_err-write_all-clause-front : goal.returns-in_err-write_all-clause-front
returns-in_err-write_all-clause-front g c =
    let p = err_from_is_err_and c.from_residual.result c.from_residual.ensures.1 in
    rw p.1 (front_first _ _ _ _ c.in_err-write_all.ensures.front)

pub returns-clause-front : goal.returns-clause-front
returns-clause-front g c =
    on_err_weaker c.write_all-2.result
    (λ front. front_second _ _ _ _ _ c.in_ok-write_all.ensures.all front)
    c.write_all-2.ensures.front

pub returns-clause-whole : goal.returns-clause-whole
returns-clause-whole g c = grind (arith, common_steps)
