-- One more word is written, and its bits are told.
use Rattle.libclearmap.proofs.Names.{arith, or_zero_l, cases_eq, length-set, get_or-set_other}
use Rattle.libclearmap.proofs.Names.{get_or-set_same, joined_before, joined_here}
use Rattle.libclearmap.proofs.copy.pack_row.Goals as goal

pub words-preserved : goal.words-preserved
words-preserved g c =
    let across = c.across-across.ensures.across in
    let word_is = rw c.words.invariant.rows at c.word-word.ensures.word in
    let past = c.words.invariant in
    record {
      rows = cc;
      long = grind (arith, length-set);
      read = λ k below. let same = cases_eq k c.words.index in
          grind (arith, across, get_or-set_same, get_or-set_other, past.read k);
      told = λ k i below one. let same = cases_eq k c.words.index in
          grind (arith, joined_before, joined_here, past.told k i);
      none = λ blank. grind (arith, across, past.none blank, or_zero_l, blank c.words.index);
      before = λ k below. grind (arith, get_or-set_other, past.before k);
      after = λ k beyond. grind (arith, across, get_or-set_other, past.after k);
    }
