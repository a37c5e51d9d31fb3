-- A coordinate takes no more than six bytes, since a number of 16 bits has five digits at most.
use Rattle.std.proofs.Common.{arith}
use Rattle.metric.proofs.Decimals.{length-decimal_16}
use Rattle.printing.proofs.line.put_signed.Goals as goal

pub returns-then-number-lt0-clause-end : goal.returns-then-number-lt0-clause-end
returns-then-number-lt0-clause-end c =
    let few = length-decimal_16 c.from-digits.result (omega arith) in omega arith

pub returns-clause-end : goal.returns-clause-end
returns-clause-end c =
    let few = length-decimal_16 c.from-digits.result (omega arith) in omega arith
