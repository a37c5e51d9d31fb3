-- The tiles from this one to the start's have been met, and the others are far.
use Rattle.std.proofs.Common.{◌/◌, inl, inr, refl, arith}
use Rattle.std.proofs.lemmas.Bool.{cases_lt}
use Rattle.clearance.proofs.Searches.{obstacle_within}
use Rattle.clearance.proofs.around.search_left.Goals as goal

pub returns-then-is_tile_far-clause-met : goal.returns-then-is_tile_far-clause-met
returns-then-is_tile_far-clause-met g c = λ a b here left.
    let last = obstacle_within (g.R.Rows.cells c.args.rows.now) c.requires.rect.bitmap a b here.0 in
    let column = last.2 in
    let own = c.left.invariant.own in
    let some = c.left-test.true in
    elim (cases_lt (a / 64) c.left.after) [
      | inl before ↦ c.if-is_tile_far.ensures refl a b (omega arith) here.1
          (inr (rw c.left.invariant.onward.start (omega arith), omega arith)) (omega arith)
      | inr from ↦ c.left.invariant.met a b here from left
    ]

pub search_tile-requires-clause-tile : goal.search_tile-requires-clause-tile
search_tile-requires-clause-tile g c =
    let own = c.left.invariant.own in
    let some = c.left-test.true in
    let before = c.start.ensures.before in
    let right = c.requires.rect.columns in
    rw c.left.invariant.rows (omega arith)
