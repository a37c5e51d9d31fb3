-- Band by band.
use Rattle.std.proofs.Common.{◌/◌, ◌∙◌, inl, inr, arith}
use Rattle.std.proofs.lemmas.Bool.{cases_lt}
use Rattle.footprint.proofs.RowHits.{column_overlapped, row_overlapped}
use Rattle.footprint.proofs.hit.any_band.Goals as goal

pub returns-then-columns-clause-found : goal.returns-then-columns-clause-found
returns-then-columns-clause-found g c = λ some.
    let (x, y, hit) = some in
    let lies = column_overlapped (g.R.Rows.cells c.args.rows.now) c.args.ring.now c.args.columns x y
    c.requires.bitmap c.requires.columns hit in
    let after = lies.after in
    let before = lies.before in
    omega arith

pub bands-preserved : goal.bands-preserved
bands-preserved g c = record {
  rows = c.band_hits.ensures.rows ∙ c.bands.invariant.rows;
  from = let from = c.bands.invariant.from in omega arith;
  none =
      let here = rw c.bands.invariant.rows at c.if-band_hits.ensures.found in
      λ x y from before hit. elim (cases_lt (y / 64) c.bands.band) [
        | inl earlier ↦ c.bands.invariant.none x y from earlier hit
        | inr later ↦ here x y (omega arith) hit
      ];
}

pub returns-clause-found : goal.returns-clause-found
returns-clause-found g c = λ some.
    let (x, y, hit) = some in
    let lies = row_overlapped (g.R.Rows.cells c.args.rows.now) c.args.ring.now c.args.lines x y
    c.requires.bitmap c.requires.lines hit in
    let after = lies.after in
    let before = lies.before in
    let over = c.bands-test.false in
    let end = c.div_ceil-band-end.ensures in
    c.bands.invariant.none x y after (omega arith) hit
