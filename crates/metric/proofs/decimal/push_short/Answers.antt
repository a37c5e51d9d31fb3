-- A number of three or four digits is its hundreds and then its last two digits, and takes the room
-- of all of them.
use Rattle.std.proofs.Common.{arith, append_assoc}
use Rattle.metric.proofs.Decimals.{decimal_hundreds, length-decimal_hundreds}
use Rattle.metric.proofs.decimal.push_short.Goals as goal

pub push_one_or_two-requires-2 : goal.push_one_or_two-requires-2
push_one_or_two-requires-2 c =
    let digits = length-decimal_hundreds c.args.number (omega arith) (omega arith) in
    record { short = omega arith; space = omega arith }

pub push_two-requires : goal.push_two-requires
push_two-requires c =
    let digits = length-decimal_hundreds c.args.number (omega arith) (omega arith) in
    record { short = omega arith; space = omega arith }

pub returns-clause-text : goal.returns-clause-text
returns-clause-text c =
    rw (decimal_hundreds c.args.number (omega arith) (omega arith))
    (rw (← append_assoc) (rw (← c.push_one_or_two-2.ensures.text) c.push_two.ensures.text))

pub returns-clause-length : goal.returns-clause-length
returns-clause-length c =
    let digits = length-decimal_hundreds c.args.number (omega arith) (omega arith) in omega arith
