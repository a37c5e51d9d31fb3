-- A commit keeps the rule, and stores the NOW that the seat's place and version say.
use Rattle.shelf.proofs.Names.{ap, rules, arith, ◌∙◌, refl, keeper_in, now-within}
use Rattle.shelf.proofs.steps.KeeperSteps.{commits_it}
use Rattle.shelf.proofs.seats.KeeperSeats.{says_committed, word_committed, room_committed}
use Rattle.shelf.proofs.keeper.KeeperSeat.commit.Goals as goal

pub overflow_add-self : goal.overflow_add-self
overflow_add-self g c =
    let most = (room_committed _ c.self.invariant.0.ready _ _ _ _ _ _ _ _ c.requires.may refl
    (c.requires.slot _ c.requires.may.in_hand) (rw c.self.view_is at c.self.invariant.2)).0 in
    omega arith

pub overflow_add-self-2 : goal.overflow_add-self-2
overflow_add-self-2 g c =
    let most = (room_committed _ c.self.invariant.0.ready _ _ _ _ _ _ _ _ c.requires.may
    c.from.ensures (c.requires.slot _ c.requires.may.in_hand)
    (rw c.self.view_is at c.self.invariant.2)).1 in
    omega arith

pub word-now-requires : goal.word-now-requires
word-now-requires g c =
    let room = room_committed _ c.self.invariant.0.ready _ _ _ _ _ _ _ _ c.requires.may
    c.from.ensures (c.requires.slot _ c.requires.may.in_hand)
    (rw c.self.view_is at c.self.invariant.2) in
    record { place = room.0; version = room.1; slot = room.2 }

pub store-requires : goal.store-requires
store-requires g c =
    let of = c.self.invariant.0 in
    let word = c.word-now.ensures ∙ word_committed _ of.ready _ _ _ _ _ _ _ _ c.requires.may
    c.from.ensures (c.requires.slot _ c.requires.may.in_hand)
    (rw c.self.view_is at c.self.invariant.2) in
    rw c.deref.ensures (
      search rules,
      search (rules, now-within),
      rw of.basis_is (commits_it g.Id.StoreName.store.base _ _ _ _ c.args.self.now (search rules)
          c.requires.may word),
    )

pub invariant_of-self : goal.invariant_of-self
invariant_of-self g c =
    let may = c.requires.may in
    let told = c.store.ensures.2 c.args.self.now may.task (search rules) may.in_hand in (
      search rules,
      search rules,
      rw (ap (λ m. keeper_in m.0) told.0)
          (says_committed _ c.self.invariant.0.ready _ _ _ _ _ _ _ _ may c.from.ensures
          (c.requires.slot _ may.in_hand) (rw c.self.view_is at c.self.invariant.2)),
    )

pub returns-clause-legal : goal.returns-clause-legal
returns-clause-legal g c =
    let may = c.requires.may in
    let told = c.store.ensures.2 c.args.self.now may.task (search rules) may.in_hand in
    rw (ap (λ m. keeper_in m.0) told.0) told.1
