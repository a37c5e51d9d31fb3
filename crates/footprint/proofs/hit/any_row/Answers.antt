-- Row by row.
use Rattle.std.proofs.Common.{◌≡◌, ◌∙◌, inl, inr, subst, ℕ, arith}
use Rattle.std.proofs.lemmas.Bool.{cases_lt}
use Rattle.footprint.specs.Polygon.{IsHit}
use Rattle.footprint.proofs.hit.any_row.Goals as goal

pub row_hits-requires-clause-overlapped : goal.row_hits-requires-clause-overlapped
row_hits-requires-clause-overlapped g c =
    let after = c.rows.invariant.from in
    (c.requires.lines c.rows.y (record { after = after; before = omega arith })).1

pub rows-preserved : goal.rows-preserved
rows-preserved g c = record {
  rows = c.row_hits.ensures.rows ∙ c.rows.invariant.rows;
  from = let from = c.rows.invariant.from in omega arith;
  none =
      let here = rw c.rows.invariant.rows at c.if-row_hits.ensures.found in
      λ x y from before hit. elim (cases_lt y c.rows.y) [
        | inl earlier ↦ c.rows.invariant.none x y from earlier hit
        | inr later ↦
            let same : y ≡ c.rows.y = omega arith in
            here x
            (subst (λ (n : ℕ). IsHit (g.R.Rows.cells c.args.rows.now) c.args.ring.now x n) same hit)
      ];
}

pub returns-clause-found : goal.returns-clause-found
returns-clause-found g c = λ x y lies hit.
    let after = lies.after in
    let before = lies.before in
    let over = c.rows-test.false in
    c.rows.invariant.none x y after (omega arith) hit
