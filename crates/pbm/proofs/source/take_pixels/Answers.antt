-- Each word goes into its cells; a fault among its pixels is the raster's.
use Rattle.std.proofs.Common.{◌≡◌, ◌*◌, ◌<◌, ◌∙◌, refl, arith}
use Rattle.pbm.proofs.Following.{failed-so, Follows-nothing, Follows-both, Follows-weaker}
use Rattle.pbm.proofs.Following.{IsFaultOf-weaker, Meets-after}
use Rattle.pbm.proofs.PlainWords.{pixels_before, IsReadTo-word, IsReadTo-word_fault}
use Rattle.pbm.proofs.Progress.{IsReadTo-none, IsReadTo-all}
use Rattle.pbm.proofs.source.take_pixels.Goals as goal

pub rows-init : goal.rows-init
rows-init g c = record {
  open_still = c.requires.«open»;
  packed = Follows-nothing (λ all. IsReadTo-none all _ _
      (pixels_before c.args.bitmap.now.width 0 0) _ (omega arith) c.requires.blank);
  width_still = refl;
  height_still = refl;
  none_failed = refl;
}

pub returns-in_err-word-clause-fault : goal.returns-in_err-word-clause-fault
returns-in_err-word-clause-fault g c =
    let column : 64 * c.words.index < c.args.bitmap.now.width = omega arith in
    failed-so _ _ _ c.from_residual.ensures.1
    (IsFaultOf-weaker c.in_err-word.field-0.0
    (λ fault. Meets-after (λ all here packed read. IsReadTo-word_fault all
    c.args.bitmap.now.width c.args.bitmap.now.height c.rows.y c.words.index c.min-count.result
    c.words.bitmap here fault column (omega arith) (omega arith) read packed)
    c.words.invariant.packed) c.in_err-word.ensures.fault)

pub words-preserved : goal.words-preserved
words-preserved g c =
    let column : 64 * c.words.index < c.args.bitmap.now.width = omega arith in
    record {
      open_still = c.next_word.ensures.«open»;
      packed = rw c.set_word.ensures.written
          (Follows-both (λ all here left packed read. IsReadTo-word all c.args.bitmap.now.width
          c.args.bitmap.now.height c.rows.y c.words.index c.min-count.result c.in_ok-word.word
          c.words.bitmap here left column (omega arith) (omega arith) read packed)
          c.words.invariant.packed c.in_ok-word.ensures.word);
      width_still = rw c.set_word.ensures.written c.words.invariant.width_still;
      height_still = rw c.set_word.ensures.written c.words.invariant.height_still;
      none_failed = c.in_ok-word.ensures.counts ∙ c.words.invariant.none_failed;
    }

pub returns-clause-pixels : goal.returns-clause-pixels
returns-clause-pixels g c =
    let down : c.rows.y ≡ c.args.bitmap.now.height = omega arith in
    Follows-weaker (λ all left. IsReadTo-all all c.args.bitmap.now.width
    c.args.bitmap.now.height (pixels_before c.args.bitmap.now.width c.rows.y 0) c.rows.bitmap left
    (rw down (omega arith))) c.rows.invariant.packed
