-- A leave keeps the rule.
use Rattle.shelf.proofs.Names.{arith, pin_word, rules, pin-within, reader_on}
use Rattle.shelf.proofs.steps.ReaderSteps.{leaves_it}
use Rattle.shelf.proofs.reader.ReaderSeat.leave.Goals as goal

pub store-requires : goal.store-requires
unfolding pin_word
store-requires g c =
    let of = c.self.invariant.0 in
    rw (c.deref.ensures, c.pin_at-place.ensures, c.self.invariant.2.number_is) (
      search rules,
      search (rules, pin-within),
      rw of.basis_is (leaves_it g.Id.StoreName.store.base _ _ _ _
          (reader_on c.self.inside.seat.views) (cc) (omega arith)),
    )
