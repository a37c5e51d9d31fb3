-- An exact announcement keeps the rule.
use Rattle.shelf.proofs.Names.{arith, pin_word, rules, [], ◌∷◌, ap, ◌∙◌, pin-within, reader_on}
use Rattle.shelf.proofs.steps.ReaderSteps.{confirms_it, confirmed_held}
use Rattle.shelf.proofs.reader.ReaderSeat.confirm.Goals as goal

pub store-requires : goal.store-requires
unfolding pin_word
store-requires g c =
    let of = c.self.invariant.0 in
    let x = reader_on c.self.inside.seat.views in
    rw (c.deref.ensures, c.pin_at-place.ensures, c.self.invariant.2.number_is) (
      search rules,
      search (rules, pin-within),
      rw of.basis_is (confirms_it g.Id.StoreName.store.base _ _ _ _ x c.args.version (cc)
          (search (rules, confirmed_held)) (omega (arith, c.from.ensures))),
    )

pub invariant_of-self : goal.invariant_of-self
invariant_of-self g c =
    let x = reader_on c.self.inside.seat.views in
    let told = c.store.ensures.2 x c.args.version (cc) (search (rules, confirmed_held)) in
    let views = c.into_badge.ensures.2 ∙ ap (λ m. m.0 ∷ []) told in
    (search rules, search rules, rw (ap reader_on views) (search rules))

pub returns : goal.returns
returns g c =
    let told = c.store.ensures.2 (reader_on c.self.inside.seat.views) c.args.version (cc)
    (search (rules, confirmed_held)) in
    search rules
