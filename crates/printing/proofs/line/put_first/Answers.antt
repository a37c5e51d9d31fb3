-- An entry leaves room for its place and takes no more than 24 bytes, since a distance has ten
-- digits at most.
use Rattle.std.proofs.Common.{arith}
use Rattle.metric.proofs.Decimals.{length-decimal_32}
use Rattle.printing.proofs.line.put_first.Goals as goal

pub put_place-requires : goal.put_place-requires
put_place-requires c =
    let few = length-decimal_32 c.in-Some.near.dist (omega arith) in omega arith

pub returns-clause-end : goal.returns-clause-end
returns-clause-end c =
    let few = length-decimal_32 c.in-Some.near.dist (omega arith) in omega arith
