-- A blank and a distance take no more than 25 bytes, since a number of 32 bits has ten digits at
-- most.
use Rattle.std.proofs.Common.{arith}
use Rattle.metric.proofs.Decimals.{length-decimal_32}
use Rattle.printing.proofs.distances.put_other.Goals as goal

pub returns-clause-end : goal.returns-clause-end
returns-clause-end c =
    let few = length-decimal_32 c.args.distance (omega arith) in omega arith
