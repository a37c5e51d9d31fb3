-- The obstacles of the bands that are left don't matter; those of a band are in a tile that is left.
use Rattle.std.proofs.Common.{◌/◌, ◌≤◌, inl, inr, refl, arith}
use Rattle.clearance.specs.Search.{row_gap}
use Rattle.clearance.proofs.Searches.{obstacle_within}
use Rattle.clearance.proofs.SeekerSteps.{IsBeyond-cell}
use Rattle.clearance.proofs.around.search_others.Goals as goal

pub returns-then-is_far-clause-met : goal.returns-then-is_far-clause-met
returns-then-is_far-clause-met g c = λ a b obstacle.
    let last = obstacle_within (g.R.Rows.cells c.args.rows.now) c.requires.rect.bitmap a b obstacle in
    let column = last.2 in
    let row = last.3 in
    elim (c.outwards.invariant.met a b obstacle) [
      | inl left ↦
          let away : c.in-Some.next.gap ≤ row_gap c.rect.result b =
          c.in-Some.ensures.gap.apart b (omega arith) left in
          c.if-is_far.ensures refl a b (rw c.of.ensures (
          IsBeyond-cell g.M.Metric.distance g.met.M.Metric.grows g.met.M.Metric.stays_nearer
          (g.S.Seeker.aim.from c.outwards.seeker) 0 0 c.in-Some.next.gap a b (omega arith)
          (omega arith) (omega arith) (omega arith) (rw c.rect.ensures.rect at away)))
      | inr settled ↦ settled
    ]

pub search_right-requires-clause-tiles : goal.search_right-requires-clause-tiles
search_right-requires-clause-tiles g c = λ a b here.
    let same = c.outwards.invariant.rows in
    let own = rw same at here in
    let last = obstacle_within (g.R.Rows.cells c.args.rows.now) c.requires.rect.bitmap a b own.0 in
    let column = last.2 in
    elim (c.tiles_but-tiles.ensures (a / 64) (omega arith) (c.tiles.ensures a b here.0 here.1)) [
      | inl left ↦ inl left
      | inr place ↦ inr (c.outwards.invariant.onward.settled a b
          (c.requires.but c.in-Some.next.band (a / 64) place a b (own.0, own.1, refl)))
    ]

pub returns-clause-met : goal.returns-clause-met
returns-clause-met g c = λ a b obstacle.
    let last = obstacle_within (g.R.Rows.cells c.args.rows.now) c.requires.rect.bitmap a b obstacle in
    let row = last.3 in
    elim (c.outwards.invariant.met a b obstacle) [
      | inl left ↦ absurd (c.in_default.ensures.none refl (b / 64) (omega arith) left)
      | inr settled ↦ settled
    ]
