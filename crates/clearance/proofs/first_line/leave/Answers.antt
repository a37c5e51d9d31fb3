-- The rectangle of the lines that are left.
use Rattle.std.proofs.Common.{◌-◌, arith}
use Rattle.clearance.proofs.LineWordLemmas.{IsPartOf-fewer}
use Rattle.clearance.proofs.first_line.leave.Goals as goal

pub invariant_of-result-2 : goal.invariant_of-result-2
invariant_of-result-2 c =
    let found = c.args.found in
    record {
      shape = record {
        all = λ k x y from before on_line. c.rect.ensures.all k x y from (omega arith) on_line;
        on_line = found.shape.on_line;
        inside = c.rect.ensures.all found.lines.first found.start.x found.start.y (omega arith)
            (omega arith) found.shape.on_line;
        limit_is = λ some. found.shape.limit_is (omega arith);
      };
    }

pub returns-clause-rect : goal.returns-clause-rect
returns-clause-rect c =
    let found = c.args.found in
    IsPartOf-fewer found.lines found.end (c.args.end - 1) found.rect c.rect.result found.start
    found.limit (omega arith) found.shape c.rect.ensures.only
