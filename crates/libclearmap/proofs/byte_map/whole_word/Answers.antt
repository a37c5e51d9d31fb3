-- Both tests at once.
use Rattle.libclearmap.proofs.Names.{◌≡◌, ◌+◌, ◌<◌, ℕ, nat_le, cond, get_or, refl, ap, ◌∙◌, arith}
use Rattle.libclearmap.proofs.Names.{and_lt, get_or-chunk}
use Rattle.libclearmap.proofs.LayoutLemmas.{word_of_tests}
use Rattle.libclearmap.proofs.byte_map.whole_word.Goals as goal

pub returns : goal.returns
returns c =
    let bytes = c.args.bytes.now in
    let read = λ (k : ℕ) (bit : k < 64). get_or-chunk 0 64 bytes k 0 bit
    ∙ (let same : 0 + k ≡ k = omega arith in ap (λ (n : ℕ). get_or bytes n 0) same) in
    word_of_tests c.args.low c.args.high c.at_least.result c.at_most.result _ bytes c.requires
    (λ k bit. c.at_least.ensures k bit ∙ ap (λ (b : ℕ). cond (nat_le c.args.low b) 1 0)
    (read k bit))
    (λ k bit. c.at_most.ensures k bit ∙ ap (λ (b : ℕ). cond (nat_le b c.args.high) 1 0)
    (read k bit))
    refl (and_lt 64 c.at_least.result c.at_most.result c.at_least.type_inv c.at_most.type_inv)
