-- An order keeps the rule.
use Rattle.shelf.proofs.Names.{ap, rules, refl, keeper_in, now-within}
use Rattle.shelf.proofs.steps.KeeperSteps.{orders_it}
use Rattle.shelf.proofs.seats.KeeperSeats.{now_room, says_ordered}
use Rattle.shelf.proofs.keeper.KeeperSeat.order.Goals as goal

pub word-now-requires : goal.word-now-requires
word-now-requires g c =
    let room = now_room _ c.self.invariant.0.ready _ _ _ _ _ _ c.self.invariant.2 in
    record { place = room.0; version = room.1; slot = room.2 }

pub compare_exchange_with-requires : goal.compare_exchange_with-requires
compare_exchange_with-requires g c =
    let of = c.self.invariant.0 in
    rw c.deref.ensures (
      search rules,
      search (rules, now-within),
      rw of.basis_is (orders_it g.Id.StoreName.store.base _ _ _ _ c.args.self.now
          c.args.asked.now (search rules) c.requires.accepted),
    )

pub invariant_of-self : goal.invariant_of-self
invariant_of-self g c =
    let told = c.compare_exchange_with.ensures.2 c.args.self.now c.args.asked.now
    (search rules) refl in (
      search rules,
      search rules,
      rw (ap (λ m. keeper_in m.0) told, c.is_publish-self-inside.ensures)
          (says_ordered _ _ _ _ _ _ _ c.args.asked.now
          (rw c.self.view_is at c.self.invariant.2) c.requires.accepted),
    )

pub returns : goal.returns
returns g c =
    ap (λ m. keeper_in m.0) (c.compare_exchange_with.ensures.2 c.args.self.now
    c.args.asked.now (search rules) refl)
