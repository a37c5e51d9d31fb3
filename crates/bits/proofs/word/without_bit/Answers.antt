-- The mask has one zero.
use Rattle.std.specs.Int.{w64}
use Rattle.std.proofs.lemmas.Nat.Bits.{bit_at_clear_other, bit_at_clear_same}
use Rattle.bits.proofs.word.without_bit.Goals as goal

pub returns-clause-gone : goal.returns-clause-gone
returns-clause-gone c = bit_at_clear_same w64 _ _ c.requires

pub returns-clause-kept : goal.returns-clause-kept
returns-clause-kept c = λ other within apart. bit_at_clear_other w64 _ _ c.requires other within
    apart
