-- Each step of the writing, by the lemma of that step.
use Rattle.std.proofs.Common.{◌∙◌, refl, arith}
use Rattle.bits.specs.Stored.{cells_stored}
use Rattle.bits.proofs.PutLemmas.{put_first, put_row, put_all}
use Rattle.bits.proofs.StoredLemmas.{IsBitmap-cells_stored}
use Rattle.bits.proofs.write.write_tile.Goals as goal

pub rows-init : goal.rows-init
rows-init c = record {
  stored = c.requires.stored;
  written = put_first (cells_stored c.args.width c.args.height c.args.words.now) _ _ _
      (IsBitmap-cells_stored _ _ _ c.requires.stored) (omega arith);
}

pub rows-preserved : goal.rows-preserved
rows-preserved c = record {
  stored = c.write_word.ensures.stored;
  written = c.write_word.ensures.written
      ∙ put_row (cells_stored c.args.width c.args.height c.args.words.now) _ _ c.args.tile.now
      (IsBitmap-cells_stored _ _ _ c.requires.stored) (omega arith) _ c.rows.y _ _
      c.rows.invariant.written c.rows.auto.y (omega arith) c.from.ensures refl;
}

pub returns-clause-written : goal.returns-clause-written
returns-clause-written c =
    put_all (cells_stored c.args.width c.args.height c.args.words.now) c.args.position
    c.div_ceil-across.result c.args.tile.now (IsBitmap-cells_stored _ _ _ c.requires.stored)
    (omega arith) _ c.rows.y c.rows.invariant.written (omega arith)
