-- Each word goes into its cells; a fault among its pixels is the raster's.
use Rattle.std.proofs.Common.{◌≡◌, ◌*◌, ◌<◌, arith, rules}
use Rattle.pbm.specs.Faults.{plain_raster}
use Rattle.pbm.proofs.Following.{failed-so}
use Rattle.pbm.proofs.PlainWords.{pixels_before, IsReadTo-word, IsReadTo-word_fault}
use Rattle.pbm.proofs.Progress.{IsReadTo-none, IsReadTo-all}
use Rattle.pbm.proofs.Taken.{plain-fault}
use Rattle.pbm.proofs.raster.read_plain.Goals as goal

pub rows-init : goal.rows-init
rows-init c =
    IsReadTo-none c.args.bytes.now c.args.bitmap.now.width c.args.bitmap.now.height
    (pixels_before c.args.bitmap.now.width 0 0) c.args.bitmap.now (omega arith) c.requires

pub returns-in_err-word-clause-fault : goal.returns-in_err-word-clause-fault
returns-in_err-word-clause-fault c =
    let column : 64 * c.words.index < c.args.bitmap.now.width = omega arith in
    failed-so _ _ _ c.from_residual.ensures.1
    (plain-fault c.args.bitmap.now.width c.args.bitmap.now.height c.in_err-word.field-0.0
    c.args.bytes.now
    (IsReadTo-word_fault c.args.bytes.now c.args.bitmap.now.width c.args.bitmap.now.height c.rows.y
    c.words.index c.min-count.result c.words.bitmap c.words.rest.now c.in_err-word.field-0.0
    column (omega arith) (omega arith)
    c.in_err-word.ensures c.words.invariant))

pub words-preserved : goal.words-preserved
words-preserved c =
    let column : 64 * c.words.index < c.args.bitmap.now.width = omega arith in
    rw c.set_word.ensures.written
    (IsReadTo-word c.args.bytes.now c.args.bitmap.now.width c.args.bitmap.now.height c.rows.y
    c.words.index c.min-count.result c.in_ok-word.word c.words.bitmap c.words.rest.now
    c.in_ok-word.others.now column (omega arith) (omega arith)
    c.in_ok-word.ensures c.words.invariant)

pub returns : goal.returns
unfolding plain_raster
returns c =
    let down : c.rows.y ≡ c.args.bitmap.now.height = omega arith in
    let read = IsReadTo-all c.args.bytes.now c.args.bitmap.now.width c.args.bitmap.now.height
    (pixels_before c.args.bitmap.now.width c.rows.y 0) c.rows.bitmap c.rows.rest.now
    (rw down (omega arith)) c.rows.invariant in
    search rules
