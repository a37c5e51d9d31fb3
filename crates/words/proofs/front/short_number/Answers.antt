-- The digits up to the end or to a blank are the first number.
use Rattle.std.proofs.Common.{arith}
use Rattle.words.proofs.Fronts.{short-end, short-blank}
use Rattle.words.proofs.front.short_number.Goals as goal

pub returns-then-count-bytes-clause-first : goal.returns-then-count-bytes-clause-first
returns-then-count-bytes-clause-first c =
    let read = c.front_digits-value.ensures in
    short-end c.args.bytes.now c.front_digits-value.result.1 c.front_digits-value.result.0
    (omega arith) read.few (omega arith) read.digits read.value read.small

pub returns-clause-first : goal.returns-clause-first
returns-clause-first c =
    let read = c.front_digits-value.ensures in
    short-blank c.args.bytes.now c.front_digits-value.result.1 c.front_digits-value.result.0
    (omega arith) read.few (omega arith) (omega arith) read.digits read.value read.small
