-- A word with one bit set or cleared, from std's lemmas on `n | 1 << k` and `n & !(1 << k)`.
use Rattle.std.specs.Int.{w64}
use Rattle.std.proofs.lemmas.Nat.Bits.{bit_at_set_same, bit_at_set_other, bit_at_clear_same}
use Rattle.std.proofs.lemmas.Nat.Bits.{bit_at_clear_other}
use Rattle.bits.proofs.word.with_bit.Goals as goal

pub returns-then-bit-clause-here : goal.returns-then-bit-clause-here
returns-then-bit-clause-here c = rw c.if-bit.true (bit_at_set_same w64 _ _ c.requires)

pub returns-then-bit-clause-others : goal.returns-then-bit-clause-others
returns-then-bit-clause-others c =
    λ other within apart. bit_at_set_other w64 _ _ c.requires other apart

pub returns-else-bit-clause-here : goal.returns-else-bit-clause-here
returns-else-bit-clause-here c = rw c.if-bit.false (bit_at_clear_same w64 _ _ c.requires)

pub returns-else-bit-clause-others : goal.returns-else-bit-clause-others
returns-else-bit-clause-others c =
    λ other within apart. bit_at_clear_other w64 _ _ c.requires other within apart
