-- The write changes the word's cells, and no other; none past the edge.
use Rattle.std.proofs.Common.{◌≡◌, ◌+◌, ◌*◌, refl, arith}
use Rattle.bits.specs.Words.{words_across}
use Rattle.bits.proofs.WriteLemmas.{IsWordWrite, IsStored-written, cells_stored-written}
use Rattle.bits.proofs.write.write_word.Goals as goal

-- the word is written so
write : (c : goal.After-low_bits) → IsWordWrite c.args.width c.args.height c.args.words.now c.args.y
    c.args.index (c.from.result * c.div_ceil.result + c.from-3.result) c.args.word c.low_bits.result
write c = record {
  stored = c.requires.stored;
  row = c.requires.row;
  column = c.requires.index;
  place_is = (let across : c.div_ceil.result ≡ words_across c.args.width = omega arith in
      rw (c.from.ensures, across, c.from-3.ensures) refl);
  same = λ i within before. c.low_bits.ensures.kept i (omega arith) within;
  cleared = λ i within past. c.low_bits.ensures.cleared i (omega arith) within;
}

pub returns-clause-stored : goal.returns-clause-stored
returns-clause-stored c = IsStored-written _ _ _ _ _ _ _ _ (write c)

pub returns-clause-written : goal.returns-clause-written
returns-clause-written c = grind (arith, cells_stored-written, write)
