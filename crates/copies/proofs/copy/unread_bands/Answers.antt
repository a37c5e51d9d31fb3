-- As many ones are left of a word of ones as there are bands.
use Rattle.std.proofs.Common.{◌≡◌, ℕ, ◌-◌, ◌^◌, ap, ◌∙◌, arith}
use Rattle.std.specs.Int.{bit_at}
use Rattle.std.proofs.lemmas.Nat.Bits.{bit_at_ones, ones_shr}
use Rattle.copies.proofs.copy.unread_bands.Goals as goal

pub returns-clause-unread : goal.returns-clause-unread
returns-clause-unread c = λ i within.
    ap (λ (n : ℕ). bit_at n i) (ones_shr 64 (64 - c.div_ceil.result) (omega arith))
    ∙ (ap (λ (k : ℕ). bit_at (2 ^ k - 1) i)
    (let back : 64 - (64 - c.div_ceil.result) ≡ c.div_ceil.result = omega arith in back)
    ∙ bit_at_ones c.div_ceil.result i (omega arith))
