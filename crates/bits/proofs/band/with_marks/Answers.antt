-- One word after another; where all marks are there, none is new.
use Rattle.std.proofs.Common.{◌≡◌, refl, sym, ◌∙◌, arith}
use Rattle.std.proofs.lemmas.Nat.Bits.{bit_at_ones}
use Rattle.std.specs.Int.{bit_at}
use Rattle.bits.proofs.band.with_marks.Goals as goal

pub returns-then-low_bits-clause-here : goal.returns-then-low_bits-clause-here
returns-then-low_bits-clause-here c = λ k i within one.
    let all = c.low_bits-2.ensures.kept k within (omega arith) in
    let own = c.low_bits.ensures.kept k within (omega arith) in
    let same : bit_at c.low_bits.result k ≡ bit_at c.low_bits-2.result k =
    rw (c.if-low_bits.true) refl in
    sym own ∙ (same ∙ (all ∙ bit_at_ones 64 k (omega arith)))
