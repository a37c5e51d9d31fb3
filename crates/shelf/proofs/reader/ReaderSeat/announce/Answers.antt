-- An announcement keeps the rule.
use Rattle.shelf.proofs.Names.{arith, pin_word, rules, pin-within, reader_on}
use Rattle.shelf.proofs.steps.ReaderSteps.{announces_it}
use Rattle.shelf.proofs.reader.ReaderSeat.announce.Goals as goal

pub store-requires : goal.store-requires
unfolding pin_word
store-requires g c =
    let of = c.self.invariant.0 in
    let says = c.self.invariant.2 in
    let x = reader_on c.self.inside.seat.views in
    rw (c.deref.ensures, c.pin_at-place.ensures, says.number_is) (
      search rules,
      search (rules, pin-within),
      rw of.basis_is (announces_it g.Id.StoreName.store.base _ _ _ _ x (cc) (search rules)
          (omega (arith, c.from.ensures, says.version_is))),
    )
