-- A number of 32 bits has ten digits at most, so its decimal fits into the room.
use Rattle.std.proofs.Common.{arith, length-append}
use Rattle.metric.proofs.Decimals.{length-decimal_32}
use Rattle.lines.proofs.text.Text.put_number.Goals as goal

pub push_decimal-requires : goal.push_decimal-requires
push_decimal-requires c = let few = length-decimal_32 c.args.number (omega arith) in grind arith

pub returns-clause-few : goal.returns-clause-few
returns-clause-few c = let few = length-decimal_32 c.args.number (omega arith) in
    grind (arith, length-append)
