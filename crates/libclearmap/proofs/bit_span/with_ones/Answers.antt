-- A bit of the mask turns the word's bit of its place.
use Rattle.libclearmap.proofs.Names.{arith, w64, bit_at_and, bit_at_not}
use Rattle.std.proofs.lemmas.Nat.Bits.{bit_at_or}
use Rattle.libclearmap.proofs.bit_span.with_ones.Goals as goal

pub returns-then-value-clause-inside : goal.returns-then-value-clause-inside
returns-then-value-clause-inside c = λ i few one. grind (arith, bit_at_or)

pub returns-then-value-clause-outside : goal.returns-then-value-clause-outside
returns-then-value-clause-outside c = λ i few zero. grind (arith, bit_at_or)

pub returns-else-value-clause-inside : goal.returns-else-value-clause-inside
returns-else-value-clause-inside c = λ i few one.
    grind (arith, bit_at_and, bit_at_not w64 c.args.mask i)

pub returns-else-value-clause-outside : goal.returns-else-value-clause-outside
returns-else-value-clause-outside c = λ i few zero.
    grind (arith, bit_at_and, bit_at_not w64 c.args.mask i)
