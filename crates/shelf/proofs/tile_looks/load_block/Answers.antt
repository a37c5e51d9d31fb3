-- A look at the directory keeps the rule.
use Rattle.shelf.proofs.Names.{rules, map-within, reader_in}
use Rattle.shelf.proofs.steps.LookSteps.{looks_it}
use Rattle.shelf.proofs.tile_looks.load_block.Goals as goal

pub load-word-requires : goal.load-word-requires
load-word-requires g c =
    let z = g.Id.StoreName.store.base in
    let of = c.requires.of in
    rw (c.map_at-place.ensures z of.plan_is) (
      search rules,
      search (rules, map-within),
      rw of.basis_is (looks_it z _ _ _ _ (reader_in c.args.seat.now.me.0) c.requires.reader),
    )
