-- One more word is there, of the bytes of the row, each of them reversed.
use Rattle.std.proofs.Common.{◌≡◌, ℕ, ◌+◌, ◌-◌, ◌*◌, ◌/◌, ◌%◌, ◌∙◌, ap, get_or}
use Rattle.std.proofs.Common.{◌<◌, arith, drop, length, take}
use Rattle.std.specs.Int.{bit_at, reverse_bits_onto}
use Rattle.std.proofs.lemmas.List.{get_or-drop, get_or-take}
use Rattle.pbm.proofs.Words.{bit_at-reverse_low}
use Rattle.pbm.proofs.raw_raster.read_row.Goals as goal

pub returns : goal.returns
returns c k few i within inside =
    let start = c.args.start in
    let at = 8 * k + i / 8 in
    let place : i % 8 < 8 = omega arith in
    let byte : start + at ≡ start + 8 * k + i / 8 = omega arith in
    let room : at < length (take (start + c.args.across - start) (drop start c.args.raster.now)) =
    omega arith in
    c.words.invariant k (omega arith) i within
    ∙ (ap (λ (n : ℕ). bit_at n (i % 8))
    (c.reverse_each.ensures.each at room
    ∙ ap (λ (n : ℕ). reverse_bits_onto 8 n 0)
    (get_or-take (start + c.args.across - start) (drop start c.args.raster.now) at 0 (omega arith)
    ∙ (get_or-drop start c.args.raster.now at 0
    ∙ ap (λ (n : ℕ). get_or c.args.raster.now n 0) byte)))
    ∙ bit_at-reverse_low 8 (get_or c.args.raster.now (start + 8 * k + i / 8) 0) 0 (i % 8) place)
