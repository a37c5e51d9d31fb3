-- The tiles before this one have been met, and the others are far or outside the map.
use Rattle.std.proofs.Common.{◌/◌, inl, inr, refl, arith}
use Rattle.std.proofs.lemmas.Bool.{cases_lt}
use Rattle.clearance.proofs.Searches.{obstacle_within}
use Rattle.clearance.proofs.around.search_right.Goals as goal

pub returns-then-is_tile_far-clause-met : goal.returns-then-is_tile_far-clause-met
returns-then-is_tile_far-clause-met g c = λ a b here own.
    let last = obstacle_within (g.R.Rows.cells c.args.rows.now) c.requires.rect.bitmap a b here.0 in
    let column = last.2 in
    elim (cases_lt (a / 64) c.right.tile) [
      | inl before ↦ c.right.invariant.met a b here own before
      | inr from ↦ c.if-is_tile_far.ensures refl a b (omega arith) here.1
          (inl (rw c.right.invariant.onward.start c.right.invariant.own, from)) (omega arith)
    ]

pub returns-clause-met : goal.returns-clause-met
returns-clause-met g c = λ a b here own.
    let last = obstacle_within (g.R.Rows.cells c.args.rows.now) c.requires.rect.bitmap a b here.0 in
    let column = last.0 in
    c.right.invariant.met a b here own (omega arith)
