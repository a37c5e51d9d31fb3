-- Each byte has eight bits of the word.
use Rattle.std.proofs.Common.{◌≡◌, ℕ, ◌+◌, ◌-◌, ◌*◌, ◌∙◌, [], ◌∷◌, List, get_or, ap, arith}
use Rattle.std.specs.Int.{bit_at}
use Rattle.std.proofs.lemmas.Grind.{common_steps}
use Rattle.bits.proofs.WordBits.{bit_of_part}
use Rattle.pbm.proofs.Eights.{bit_of_lowest, get_or-written}
use Rattle.pbm.proofs.Words.{each_of_eight}
use Rattle.pbm.proofs.raw_row.put_word.Goals as goal

pub returns-clause-bits : goal.returns-clause-bits
returns-clause-bits c =
    let word = c.args.word in
    let bytes : List ℕ = c.byte_of.result ∷ c.byte_of-2.result ∷ c.byte_of-3.result
    ∷ c.byte_of-4.result ∷ c.byte_of-5.result ∷ c.byte_of-6.result ∷ c.byte_of-7.result
    ∷ c.byte_of-8.result ∷ [] in
    λ k few i within.
    let none : 7 - i ≡ 0 + (7 - i) = omega arith in
    let is : bit_at (get_or bytes k 0) i ≡ bit_at word (8 * k + (7 - i)) =
    each_of_eight (λ n. bit_at (get_or bytes n 0) i ≡ bit_at word (8 * n + (7 - i)))
    (c.byte_of.ensures i within
    ∙ (bit_of_lowest word (7 - i) (omega arith) ∙ ap (bit_at word) none))
    (c.byte_of-2.ensures i within ∙ bit_of_part word 1 (7 - i) (omega arith))
    (c.byte_of-3.ensures i within ∙ bit_of_part word 2 (7 - i) (omega arith))
    (c.byte_of-4.ensures i within ∙ bit_of_part word 3 (7 - i) (omega arith))
    (c.byte_of-5.ensures i within ∙ bit_of_part word 4 (7 - i) (omega arith))
    (c.byte_of-6.ensures i within ∙ bit_of_part word 5 (7 - i) (omega arith))
    (c.byte_of-7.ensures i within ∙ bit_of_part word 6 (7 - i) (omega arith))
    (c.byte_of-8.ensures i within ∙ bit_of_part word 7 (7 - i) (omega arith)) k few in
    ap (λ (n : ℕ). bit_at n i)
    (rw c.copy_from_slice.ensures.after
    (get_or-written c.args.first k c.args.row.now bytes _ (omega arith) few)) ∙ is

pub returns-clause-others : goal.returns-clause-others
returns-clause-others c = grind (arith, common_steps)
