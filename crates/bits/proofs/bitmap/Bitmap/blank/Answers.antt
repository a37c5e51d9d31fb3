-- Words that are 0 have no obstacle.
use Rattle.std.proofs.Common.{◌≡◌, ◌*◌, arith}
use Rattle.bits.specs.Words.{words_across}
use Rattle.bits.proofs.BandLemmas.{IsKept-none}
use Rattle.bits.proofs.bitmap.Bitmap.blank.Goals as goal

pub invariant_of-result : goal.invariant_of-result
invariant_of-result c =
    let none = c.in_ok-words.ensures.items_if_clones_equal (λ y is. is) in
    let across : c.div_ceil-across.result ≡ words_across c.args.width = omega arith in
    let many : c.div_ceil-across.result * c.from-2.result
    ≡ c.args.height * words_across c.args.width = rw (across, c.from-2.ensures) (omega arith) in
    IsKept-none c.args.width c.args.height (c.div_ceil-across.result * c.from-2.result)
    c.in_ok-words.words.items _ c.requires.width c.requires.height none many
