-- The bits are reversed.
use Rattle.std.proofs.Common.{ℕ, ◌∙◌, ap}
use Rattle.std.specs.Int.{bit_at}
use Rattle.pbm.proofs.Words.{bit_at-reverse_low}
use Rattle.pbm.proofs.raw_row.byte_of.Goals as goal

pub returns : goal.returns
returns c i within = ap (λ (n : ℕ). bit_at n i) c.reverse_bits.ensures
    ∙ bit_at-reverse_low 8 c.args.eight 0 i within
