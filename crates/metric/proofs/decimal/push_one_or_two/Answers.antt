-- A number of one digit is that digit, and one of two digits is its tens and its ones.
use Rattle.std.proofs.Common.{length, arith, ap}
use Rattle.std.proofs.lemmas.Fmt.{decimal_digit}
use Rattle.metric.proofs.Decimals.{decimal_two, length-decimal_two}
use Rattle.metric.proofs.decimal.push_one_or_two.Goals as goal

pub push_reserved-requires : goal.push_reserved-requires
push_reserved-requires c =
    let one = ap length (decimal_digit c.args.number (omega arith)) in omega arith

pub returns-then-number-lt10-clause-text : goal.returns-then-number-lt10-clause-text
returns-then-number-lt10-clause-text c =
    rw (decimal_digit c.args.number (omega arith)) c.push_reserved.ensures.items

pub returns-then-number-lt10-clause-length : goal.returns-then-number-lt10-clause-length
returns-then-number-lt10-clause-length c =
    rw (decimal_digit c.args.number (omega arith)) c.push_reserved.ensures.len

pub push_two-requires : goal.push_two-requires
push_two-requires c =
    let two = length-decimal_two c.args.number (omega arith) (omega arith) in
    record { short = omega arith; space = omega arith }

pub returns-clause-text : goal.returns-clause-text
returns-clause-text c =
    rw (decimal_two c.args.number (omega arith) (omega arith)) c.push_two.ensures.text

pub returns-clause-length : goal.returns-clause-length
returns-clause-length c =
    let two = length-decimal_two c.args.number (omega arith) (omega arith) in omega arith
