-- Each row goes into its cells, and all rows are the raster.
use Rattle.std.proofs.Common.{◌≡◌, ◌+◌, ◌*◌, ◌∙◌, refl, ap, get_or, arith, rules}
use Rattle.bits.specs.Cells.{Cells}
use Rattle.bits.specs.Words.{words_across}
use Rattle.bits.specs.Writes.{with_row}
use Rattle.pbm.specs.Faults.{raw_cells, raw_raster}
use Rattle.pbm.specs.Image.{bytes_across, raw_pixel}
use Rattle.pbm.proofs.RasterRows.{drawn_row-more}
use Rattle.pbm.proofs.Words.{drawn_words-all, raw_word-pixel}
use Rattle.pbm.proofs.raw_raster.read_raw.Goals as goal

pub rows-preserved : goal.rows-preserved
rows-preserved c =
    let width = c.args.bitmap.now.width in
    let y = c.rows.y in
    let across : c.from-across.result ≡ bytes_across width = omega arith in
    let words = c.read_row.new.words in
    c.set_row.ensures.written
    ∙ (ap (λ (cells : Cells). with_row cells y words) c.rows.invariant
    ∙ drawn_row-more width c.args.bitmap.now.height y words
    (raw_pixel (bytes_across width) c.split_at.result.0.now)
    (λ k i column within inside.
    let start : c.from-in-rows.result * c.from-across.result + 8 * k
    ≡ y * bytes_across width + 8 * k =
    rw (c.from-in-rows.ensures, across) refl in
    raw_word-pixel (bytes_across width) c.split_at.result.0.now y k
    (c.from-in-rows.result * c.from-across.result + 8 * k) i (get_or words k 0) start
    (c.read_row.ensures k (omega arith) i within (omega arith))))

pub returns-clause-raster : goal.returns-clause-raster
unfolding raw_raster
returns-clause-raster c =
    let width = c.args.bitmap.now.width in
    let down : c.rows.y ≡ c.args.bitmap.now.height = omega arith in
    let drawn : c.rows.bitmap
    ≡ raw_cells c.args.bitmap.now.width c.args.bitmap.now.height c.split_at.result.0.now =
    c.rows.invariant ∙ drawn_words-all width c.args.bitmap.now.height
    (c.rows.y * words_across width) (raw_pixel (bytes_across width) c.split_at.result.0.now)
    (rw down refl) in
    search rules
