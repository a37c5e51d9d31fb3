-- Eight digits more stand there, those of the lanes.
use Rattle.std.proofs.Common.{◌≡◌, ◌+◌, ◌-◌, ◌*◌, ◌/◌, ◌^◌, ◌∙◌, inl, inr, ap, bit_and, length}
use Rattle.std.proofs.Common.{arith, rules}
use Rattle.std.specs.Int.{bit_at}
use Rattle.std.proofs.lemmas.Bool.{cases_lt}
use Rattle.std.proofs.lemmas.Simd.{get_or-put_chunk_at, get_or-put_chunk_below}
use Rattle.bits.proofs.WordBits.{bit_of_part}
use Rattle.pbm.proofs.digit_row.put_word.Goals as goal

pub parts-preserved : goal.parts-preserved
parts-preserved c =
    let first = c.args.first + 8 * c.parts.part in
    let digits = c.parts.digits in
    let lanes = c.digits_of.result in
    let eight : length c.digits_of.result ≡ 8 = search rules in
    let len = c.parts.auto.digits in
    record {
      pixels = λ i below. elim (cases_lt i (8 * c.parts.part)) [
        | inl before ↦
            get_or-put_chunk_below first digits lanes (c.args.first + i) 0 (omega (arith, before))
            ∙ c.parts.invariant.pixels i before
        | inr here ↦
            let place : c.args.first + 8 * c.parts.part + (i - 8 * c.parts.part)
            ≡ c.args.first + i = omega (arith, here) in
            let sum : 8 * c.parts.part + (i - 8 * c.parts.part) ≡ i = omega (arith, here) in
            let bit : bit_at (bit_and (c.args.word / 2 ^ (8 * c.parts.part)) 255)
            (i - 8 * c.parts.part) ≡ bit_at c.args.word i =
            bit_of_part c.args.word c.parts.part (i - 8 * c.parts.part) (omega (arith, below, here))
            ∙ ap (bit_at c.args.word) sum in
            rw (place, bit) at
            (get_or-put_chunk_at first digits lanes (i - 8 * c.parts.part) 0
            (omega (arith, eight, below, here)) (omega (arith, eight, len, c.requires))
            ∙ c.digits_of.ensures (i - 8 * c.parts.part) (omega (arith, below, here)))
      ];
      others = λ x before. get_or-put_chunk_below first digits lanes x 0 (omega (arith, before))
          ∙ c.parts.invariant.others x before;
    }
