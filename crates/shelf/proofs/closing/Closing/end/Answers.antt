-- The last load tells that each caller was a reader that was dealt, so that the counts of all
-- readers add up.
use Rattle.shelf.proofs.Names.{rules, ap, sym, ◌∙◌, now-within, keeper_in}
use Rattle.shelf.proofs.steps.EndSteps.{ends_it}
use Rattle.shelf.proofs.logs.ClosingSums.{closed_sum}
use Rattle.shelf.proofs.closing.Closing.end.Goals as goal

pub load-requires : goal.load-requires
load-requires g c =
    let of = c.self.invariant.0 in
    rw c.deref.ensures (
      search rules,
      search (rules, now-within),
      rw of.basis_is (ends_it g.Id.StoreName.store.base _ _ _
          (keeper_in c.self.inside.seat.me.0) (search rules)),
    )

pub returns-clause-made : goal.returns-clause-made
returns-clause-made g c =
    let k = keeper_in c.self.inside.seat.me.0 in
    let told = c.load.ensures.2 k (ap (λ m. m.0) c.self.invariant.1) in
    rw (← c.self.view_is) (λ all. closed_sum k c.self.invariant.2 told.1.callers
    (all ∙ sym c.self.invariant.3))
