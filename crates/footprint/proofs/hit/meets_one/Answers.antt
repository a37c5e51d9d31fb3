-- The range of near corners is near, and overlaps what the corners overlap.
use Rattle.footprint.proofs.Ranges.{AreOverlapped-range, IsNearBy-column, IsNearBy-row}
use Rattle.footprint.proofs.hit.meets_one.Goals as goal

pub columns-requires-clause-left : goal.columns-requires-clause-left
columns-requires-clause-left g c =
    IsNearBy-column c.args.ring.now c.args.bounds.left c.requires.near c.requires.columns.least_is

pub columns-requires-clause-right : goal.columns-requires-clause-right
columns-requires-clause-right g c =
    IsNearBy-column c.args.ring.now c.args.bounds.right c.requires.near c.requires.columns.most_is

pub rows-requires-clause-top : goal.rows-requires-clause-top
rows-requires-clause-top g c =
    IsNearBy-row c.args.ring.now c.args.bounds.top c.requires.near c.requires.lines.least_is

pub rows-requires-clause-bottom : goal.rows-requires-clause-bottom
rows-requires-clause-bottom g c =
    IsNearBy-row c.args.ring.now c.args.bounds.bottom c.requires.near c.requires.lines.most_is

pub any_band-requires-clause-columns : goal.any_band-requires-clause-columns
any_band-requires-clause-columns g c =
    let on = rw c.width-width.ensures.width at c.columns.ensures.on in
    let few = rw c.width-width.ensures.width at c.columns.ensures.few in
    AreOverlapped-range (λ a. a.x) c.args.ring.now c.args.bounds.left c.args.bounds.right
    (g.R.Rows.cells c.args.rows.now).width c.columns.result c.requires.columns on few

pub any_band-requires-clause-lines : goal.any_band-requires-clause-lines
any_band-requires-clause-lines g c =
    let on = rw c.height-height.ensures.height at c.rows.ensures.on in
    let few = rw c.height-height.ensures.height at c.rows.ensures.few in
    AreOverlapped-range (λ a. a.y) c.args.ring.now c.args.bounds.top c.args.bounds.bottom
    (g.R.Rows.cells c.args.rows.now).height c.rows.result c.requires.lines on few
