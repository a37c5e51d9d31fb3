-- The obstacles of a row in the columns that no side separates.
use Rattle.footprint.proofs.RowHits.{none_struck, row_struck}
use Rattle.footprint.proofs.hit.row_hits.Goals as goal

pub returns-then-not-strikes-clause-found : goal.returns-then-not-strikes-clause-found
returns-then-not-strikes-clause-found g c =
    none_struck (g.R.Rows.cells c.args.rows.now) c.args.ring.now c.args.columns c.args.y
    c.requires.bitmap c.requires.columns c.if-not-strikes.ensures.found

pub returns-clause-found : goal.returns-clause-found
returns-clause-found g c =
    let found = rw c.strikes.ensures.rows at c.strikes-2.ensures.found in
    row_struck (g.R.Rows.cells c.args.rows.now) c.args.ring.now c.args.columns
    c.covered-covered.result c.args.y c.strikes-2.result c.requires.bitmap c.requires.columns
    c.requires.overlapped c.covered-covered.ensures.on found
