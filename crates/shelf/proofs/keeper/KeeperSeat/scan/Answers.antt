-- A load of a reader's word keeps the rule.
use Rattle.shelf.proofs.Names.{◌≡◌, ap, rules, refl, keeper_in, pin_at, pin-within}
use Rattle.shelf.proofs.steps.KeeperSteps.{scans_it}
use Rattle.shelf.proofs.seats.KeeperSeats.{says_on}
use Rattle.shelf.proofs.keeper.KeeperSeat.scan.Goals as goal

pub load-requires : goal.load-requires
load-requires g c =
    let of = c.self.invariant.0 in
    let next = c.requires in
    let at : c.pin_at-place.result ≡ pin_at next.task.hand.done = search rules in
    rw (c.deref.ensures, at) (
      search rules,
      search (rules, pin-within),
      rw of.basis_is (scans_it g.Id.StoreName.store.base _ _ _ c.args.self.now next.task
          (search rules) next.in_hand next.collect (rw (← next.reader_is) next.inside)),
    )

pub invariant_of-self : goal.invariant_of-self
invariant_of-self g c =
    let next = c.requires in
    let told = c.load.ensures.2 c.args.self.now next.task (search rules) next.in_hand in (
      search rules,
      search rules,
      rw (ap (λ m. keeper_in m.0) told.0) (says_on _ _ _ _ _ _ _ next.task _
          (rw c.self.view_is at c.self.invariant.2) next.in_hand refl),
    )

pub returns-clause-there : goal.returns-clause-there
returns-clause-there g c =
    (c.load.ensures.2 c.args.self.now c.requires.task (search rules) c.requires.in_hand).1
