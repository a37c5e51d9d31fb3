-- A word joins its new bits to those before it.
use Rattle.std.proofs.Common.{ℕ, ◌≡◌, inl, inr, get_or, arith}
use Rattle.std.specs.Int.{bit_at}
use lib.Bits.{bit_and}
use Rattle.std.proofs.lemmas.Bool.{cases_lt}
use Rattle.column.proofs.Marking.{zero_from_test}
use Rattle.bits.proofs.WordBits.{joined_before, joined_more, joined_none}
use Rattle.column.proofs.seek.has_new.Goals as goal

pub words-preserved : goal.words-preserved
words-preserved c = λ k before i.
    let here : ℕ = bit_and (get_or c.args.words.now c.words.index 0)
    (get_or c.args.missing.now c.words.index 0) in
    elim (cases_lt k c.words.index) [
      | inl earlier ↦ joined_before c.words.new here
          (bit_at (bit_and (get_or c.args.words.now k 0) (get_or c.args.missing.now k 0)) i) i
          (c.words.invariant k earlier i)
      | inr later ↦ let same : k ≡ c.words.index = omega arith in
          rw same (joined_more c.words.new here i)
    ]

pub returns : goal.returns
returns c = λ none k within.
    joined_none (bit_and (get_or c.args.words.now k 0) (get_or c.args.missing.now k 0)) c.words.new
    (zero_from_test c.words.new none)
    (c.words.invariant k (omega arith))
