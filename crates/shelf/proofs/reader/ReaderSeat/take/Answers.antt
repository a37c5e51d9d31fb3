-- A reader's load of NOW keeps the rule, and what NOW says is of the log that is then seen.
use Rattle.shelf.proofs.Names.{rules, [], ◌∷◌, ap, ◌∙◌, now-within, reader_on}
use Rattle.shelf.proofs.steps.ReaderSteps.{takes_it}
use Rattle.shelf.proofs.seats.ReaderSeats.{now_says, slot_in, says_loaded}
use Rattle.shelf.proofs.reader.ReaderSeat.take.Goals as goal

pub load-word-requires : goal.load-word-requires
load-word-requires g c =
    let of = c.self.invariant.0 in
    rw c.deref.ensures (
      search rules,
      search (rules, now-within),
      rw of.basis_is (takes_it g.Id.StoreName.store.base _ _ _
          (reader_on c.self.inside.seat.views) (cc)),
    )

pub invariant_of-self : goal.invariant_of-self
invariant_of-self g c =
    let told = c.load-word.ensures.2 (reader_on c.self.inside.seat.views) (cc) in
    let views = c.into_badge.ensures.2 ∙ ap (λ m. m.0 ∷ []) told.1 in (
      search rules,
      search rules,
      says_loaded g.Id.StoreName.store.base _ _ _ _ _ _ _ told.0 c.self.invariant.2 told.2
          c.of-now.ensures.version (ap reader_on views),
    )

pub returns-clause-place : goal.returns-clause-place
returns-clause-place g c =
    let told = c.load-word.ensures.2 (reader_on c.self.inside.seat.views) (cc) in
    search (rules, now_says)

pub returns-clause-slot : goal.returns-clause-slot
returns-clause-slot g c =
    let told = c.load-word.ensures.2 (reader_on c.self.inside.seat.views) (cc) in
    rw (c.into_badge.ensures.2, told.1)
    (c.of-now.ensures.slot ∙ (now_says _ _ _ told.0 told.2).2)

pub returns-clause-slots : goal.returns-clause-slots
returns-clause-slots g c =
    let told = c.load-word.ensures.2 (reader_on c.self.inside.seat.views) (cc) in
    search (rules, now_says, slot_in)

pub returns-clause-version : goal.returns-clause-version
returns-clause-version g c =
    let told = c.load-word.ensures.2 (reader_on c.self.inside.seat.views) (cc) in
    rw (c.into_badge.ensures.2, told.1)
    (c.of-now.ensures.version ∙ (now_says _ _ _ told.0 told.2).1)
