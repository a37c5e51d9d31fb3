-- Where nothing is known, each bit may be 1.
use Rattle.std.proofs.Common.{◌-◌, arith}
use Rattle.std.proofs.lemmas.Nat.Bits.{bit_at_ones}
use Rattle.clearance.proofs.bit.after_last_bit.Goals as goal

pub returns-then-word-eq18446744073709551615-clause-some :
    goal.returns-then-word-eq18446744073709551615-clause-some
returns-then-word-eq18446744073709551615-clause-some c = λ some.
    let all = bit_at_ones 64 (c.args.end - 1) (omega arith) in grind arith
