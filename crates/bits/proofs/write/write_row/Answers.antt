-- Each word of the row by the lemma of a word that is written.
use Rattle.std.proofs.Common.{◌≡◌, ◌+◌, ◌-◌, ◌*◌, ◌/◌, ◌∙◌, refl, ap, get_or, arith}
use Rattle.bits.specs.Cells.{Cells}
use Rattle.bits.specs.Words.{words_across}
use Rattle.bits.specs.Stored.{cells_stored}
use Rattle.bits.specs.Writes.{with_word}
use Rattle.bits.proofs.PutLemmas.{row_front, row_front-none, row_front-more, row_front-all}
use Rattle.bits.proofs.StoredLemmas.{IsBitmap-cells_stored}
use Rattle.bits.proofs.WriteLemmas.{IsWordWrite, IsStored-written, cells_stored-written}
use Rattle.bits.proofs.write.write_row.Goals as goal

pub words-init : goal.words-init
words-init c = record {
  stored = c.requires.stored;
  written = row_front-none (cells_stored c.args.width c.args.height c.args.words.now) c.args.y
      c.args.row.now (IsBitmap-cells_stored _ _ _ c.requires.stored);
}

pub words-preserved : goal.words-preserved
words-preserved c =
    let across : c.from-2.result + 1 ≡ words_across c.args.width = omega arith in
    let word = get_or c.args.row.now c.words.index 0 in
    let write : IsWordWrite c.args.width c.args.height c.words.words c.args.y c.words.index
    (c.from.result * (c.from-2.result + 1) + c.words.index) word word = record {
      stored = c.words.invariant.stored;
      row = c.requires.row;
      column = omega arith;
      place_is = rw (c.from.ensures, across) refl;
      same = λ i within before. refl;
      cleared = λ i within past. absurd (omega arith);
    } in
    record {
      stored = IsStored-written _ _ _ _ _ _ _ _ write;
      written = cells_stored-written _ _ _ _ _ _ _ _ write
          ∙ (ap (λ (cells : Cells). with_word cells c.args.y c.words.index word)
          c.words.invariant.written
          ∙ row_front-more (cells_stored c.args.width c.args.height c.args.words.now) c.args.y
          c.words.index word c.args.row.now refl);
    }

pub returns-clause-written : goal.returns-clause-written
returns-clause-written c =
    let cells = cells_stored c.args.width c.args.height c.args.words.now in
    let last = (c.args.width - 1) / 64 in
    let at : c.words.index ≡ last = omega arith in
    let word = get_or c.args.row.now c.from-3.result 0 in
    c.write_word.ensures.written
    ∙ (ap (λ (now : Cells). with_word now c.args.y last word)
    (c.words.invariant.written ∙ ap (row_front cells c.args.y c.args.row.now) at)
    ∙ (row_front-more cells c.args.y last word c.args.row.now
    (λ i. get_or c.args.row.now (c.from-3.ensures i) 0)
    ∙ row_front-all cells c.args.y (last + 1) c.args.row.now (omega arith)))
