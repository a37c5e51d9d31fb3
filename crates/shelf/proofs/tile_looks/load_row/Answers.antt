-- A look at a row keeps the rule.
use Rattle.shelf.proofs.Names.{rules, tile-within, reader_in}
use Rattle.shelf.proofs.steps.LookSteps.{looks_it}
use Rattle.shelf.proofs.tile_looks.load_row.Goals as goal

pub load-requires : goal.load-requires
load-requires g c =
    let z = g.Id.StoreName.store.base in
    let of = c.requires.of in
    rw (c.tile_at-place.ensures z of.plan_is) (
      search rules,
      search (rules, tile-within),
      rw of.basis_is (looks_it z _ _ _ _ (reader_in c.args.seat.now.me.0) c.requires.reader),
    )
