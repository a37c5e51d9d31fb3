-- A look keeps the rule.
use Rattle.shelf.proofs.Names.{rules, tile-within, reader_on}
use Rattle.shelf.proofs.steps.LookSteps.{looks_it}
use Rattle.shelf.proofs.reader.ReaderSeat.look_tile.Goals as goal

pub load-word-requires : goal.load-word-requires
load-word-requires g c =
    let of = c.self.invariant.0 in
    let z = g.Id.StoreName.store.base in
    rw (c.deref.ensures, c.tile_at-place.ensures z of.plan_is, c.from.ensures) (
      search rules,
      search (rules, tile-within),
      rw of.basis_is (looks_it z _ _ _ _ (reader_on c.self.inside.seat.views) (cc)),
    )
