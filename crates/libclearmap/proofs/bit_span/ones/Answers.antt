-- The bits below the end that aren't left of the first.
use Rattle.libclearmap.proofs.Names.{arith, w64, bit_at_and, bit_at_not}
use Rattle.libclearmap.proofs.MarkLemmas.{bit_of_ones}
use Rattle.libclearmap.proofs.bit_span.ones.Goals as goal

pub returns-clause-inside : goal.returns-clause-inside
returns-clause-inside c i low high =
    let below = c.low_bits-below.ensures.kept i high (omega arith) in
    let left = c.low_bits-left.ensures.cleared i low (omega arith) in
    grind (
      arith,
      bit_at_and,
      bit_at_not w64 c.low_bits-left.result i c.low_bits-left.type_inv,
      bit_of_ones i,
    )

pub returns-clause-outside : goal.returns-clause-outside
returns-clause-outside c i few out =
    let below = c.low_bits-below.ensures.cleared i in
    let left = c.low_bits-left.ensures.kept i in
    grind (
      arith,
      bit_at_and,
      bit_at_not w64 c.low_bits-left.result i c.low_bits-left.type_inv,
      bit_of_ones i,
      below,
      left,
    )
