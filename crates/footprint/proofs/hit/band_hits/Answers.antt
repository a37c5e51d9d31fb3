-- The rows of a band, of which the polygon's range overlaps all.
use Rattle.std.proofs.Common.{arith, refl, rules}
use Rattle.footprint.specs.Sides.{IsIn}
use Rattle.footprint.proofs.RowHits.{column_overlapped, found_in_band}
use Rattle.footprint.proofs.hit.band_hits.Goals as goal

pub any_row-requires-clause-lines : goal.any_row-requires-clause-lines
any_row-requires-clause-lines g c = λ y is.
    let before = is.before in
    let after = is.after in
    let from = c.first_struck-first.ensures.from in
    let own : IsIn c.in_band-own.result.first c.in_band-own.result.end y =
    record { after = search (rules, arith); before = before } in
    rw c.first_struck-first.ensures.rows
    ((c.requires.lines.on y).0 ((c.in_band-own.ensures.on y).0 own).0)

pub returns-then-not-may_strike-clause-found : goal.returns-then-not-may_strike-clause-found
returns-then-not-may_strike-clause-found g c = λ x y here hit.
    c.if-not-may_strike.ensures refl x y
    (column_overlapped (g.R.Rows.cells c.args.rows.now) c.args.ring.now c.args.columns x y
    c.requires.bitmap c.requires.columns hit) here hit.obstacle

pub returns-clause-found : goal.returns-clause-found
returns-clause-found g c = found_in_band (g.R.Rows.cells c.args.rows.now) c.args.ring.now
    c.args.columns c.args.lines c.in_band-own.result c.args.band c.first_struck-first.result
    c.any_row.result c.requires.bitmap c.requires.columns c.requires.lines c.in_band-own.ensures.on
    c.first_struck-first.ensures.none
    (rw c.first_struck-first.ensures.rows at c.any_row.ensures.found)
