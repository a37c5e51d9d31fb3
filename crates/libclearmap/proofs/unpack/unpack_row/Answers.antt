-- The cells of one more word are written.
use Rattle.libclearmap.proofs.Names.{◌+◌, ◌-◌, ◌*◌, arith, cases_lt}
use Rattle.libclearmap.proofs.CopyLemmas.{row_bit_at}
use Rattle.libclearmap.proofs.unpack.unpack_row.Goals as goal

pub words-preserved : goal.words-preserved
words-preserved g c =
    let past = c.words.invariant in
    let count = c.min-count.ensures in
    let left = 64 * c.words.index in
    let word_is = rw past.rows at c.word-word.ensures.word in
    let told = c.unpack_word.ensures in
    record {
      rows = cc;
      wide = past.wide;
      long = cc;
      cells = λ x below inside.
          let here = told.cells (x - left) in
          let bit = row_bit_at (g.R.Rows.cells c.args.rows.now) x c.args.y c.words.index (x - left) in
          grind (arith, cases_lt x left, count, told.others (c.args.start + x), past.cells x);
      others = λ k out. grind (arith, count, told.others k, past.others k out);
    }
