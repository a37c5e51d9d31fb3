-- A store of a word keeps the rule.
use Rattle.shelf.proofs.Names.{ap, rules, refl, keeper_in}
use Rattle.shelf.proofs.steps.KeeperSteps.{writes_it}
use Rattle.shelf.proofs.seats.KeeperSeats.{says_on, write_within}
use Rattle.shelf.proofs.keeper.KeeperSeat.write_word.Goals as goal

pub store-requires : goal.store-requires
store-requires g c =
    let of = c.self.invariant.0 in
    let next = c.requires in
    let within = write_within _ of.ready _ _ _ _ _ _ next (rw c.self.view_is at c.self.invariant.2)
    in
    rw c.deref.ensures (
      search rules,
      search rules,
      rw of.basis_is (writes_it g.Id.StoreName.store.base _ _ _ _ _ c.args.self.now next.task
          (search rules) next.in_hand next.publish next.more (search rules) (search rules)),
    )

pub invariant_of-self : goal.invariant_of-self
invariant_of-self g c =
    let next = c.requires in
    let told = c.store.ensures.2 c.args.self.now next.task (search rules) next.in_hand in (
      search rules,
      search rules,
      rw (ap (λ m. keeper_in m.0) told) (says_on _ _ _ _ _ _ _ next.task _
          (rw c.self.view_is at c.self.invariant.2) next.in_hand refl),
    )

pub returns : goal.returns
returns g c t task =
    ap (λ m. keeper_in m.0) (c.store.ensures.2 c.args.self.now t (search rules) task)
