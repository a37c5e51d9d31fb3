-- Where nothing is known, each bit may be 1.
use Rattle.std.proofs.Common.{arith}
use Rattle.std.proofs.lemmas.Nat.Bits.{bit_at_ones}
use Rattle.clearance.proofs.bit.next_bit.Goals as goal

pub returns-then-from-eq-WORD_CELLS-clause-some : goal.returns-then-from-eq-WORD_CELLS-clause-some
returns-then-from-eq-WORD_CELLS-clause-some c = λ within.
    let all = bit_at_ones 64 c.args.from within in grind arith
