-- Bit by bit.
use Rattle.std.proofs.Common.{arith}
use Rattle.clearance.proofs.Bits.{bit_without, shared_bit}
use Rattle.clearance.proofs.bit.bits_without.Goals as goal

pub returns-clause-kept : goal.returns-clause-kept
returns-clause-kept c = λ i few here. bit_without c.args.word c.args.other i (omega arith) few here

pub returns-clause-part : goal.returns-clause-part
returns-clause-part c = λ i here. shared_bit _ _ i here
