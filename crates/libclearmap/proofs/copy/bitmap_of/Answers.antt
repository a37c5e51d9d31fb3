-- Each row is copied.
use Rattle.libclearmap.proofs.Names.{◌≡◌, ◌∙◌, refl, arith}
use Rattle.libclearmap.proofs.CopyLemmas.{rows_front-more, rows_front-all}
use Rattle.libclearmap.proofs.copy.bitmap_of.Goals as goal

pub rows-preserved : goal.rows-preserved
rows-preserved g c =
    let cells = g.R.Rows.cells c.args.rows.now in
    record {
      rows = c.copy_row.ensures.rows ∙ c.rows.invariant.rows;
      width = c.rows.invariant.width;
      height = c.rows.invariant.height;
      copied = rw (c.rows.invariant.rows, c.rows.invariant.copied) at c.copy_row.ensures.written
          ∙ rows_front-more cells c.rows.y _ (λ k within. refl);
    }

pub returns-clause-copy : goal.returns-clause-copy
returns-clause-copy g c =
    let all : c.rows.y ≡ (g.R.Rows.cells c.args.rows.now).height =
    omega (arith, c.rows.invariant.height) in
    rw all at c.rows.invariant.copied ∙ rows_front-all _ c.width-width.ensures.bitmap
