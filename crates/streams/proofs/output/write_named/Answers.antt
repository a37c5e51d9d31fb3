-- Where a write fails, a prefix of the line is written: some of the title, or all of it and some of
-- the name.
use Rattle.std.proofs.lemmas.Result.{err_from_is_err_and, on_err_weaker}
use Rattle.streams.proofs.RefusalLines.{front_first, front_second}
use Rattle.std.proofs.lemmas.Grind.{common_steps}
use Rattle.std.proofs.Common.{arith}
use Rattle.streams.proofs.output.write_named.Goals as goal

pub returns-in_err-write_pair-clause-front : goal.returns-in_err-write_pair-clause-front
returns-in_err-write_pair-clause-front g c =
    let p = err_from_is_err_and c.from_residual.result c.from_residual.ensures.1 in
    rw p.1 (front_first _ _ _ _ c.in_err-write_pair.ensures.front)

pub returns-clause-front : goal.returns-clause-front
returns-clause-front g c =
    on_err_weaker c.write_pair-2.result
    (λ front. front_second _ _ _ _ _ c.in_ok-write_pair.ensures.whole front)
    c.write_pair-2.ensures.front

pub returns-clause-whole : goal.returns-clause-whole
returns-clause-whole g c = grind (arith, common_steps)
