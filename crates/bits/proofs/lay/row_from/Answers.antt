-- The cells of a row, of two words next to one another, or of none.
use Rattle.bits.proofs.LayLemmas.{row_from_bits}
use Rattle.bits.proofs.lay.row_from.Goals as goal

pub returns : goal.returns
returns c =
    row_from_bits c.args.bitmap.now c.args.x c.args.y c.from-place.result c.from.result
    c.word_at.result c.word_at-2.result c.joined.result c.row_words-row.result.now
    c.height.ensures.bitmap c.row_words-row.ensures
    c.from-place.ensures c.from.ensures c.word_at.ensures c.word_at-2.ensures c.joined.ensures
