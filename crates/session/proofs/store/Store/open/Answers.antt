-- There is room for each session.
use Rattle.std.proofs.Common.{arith, ap, length, ◌∙◌}
use Rattle.shelf.specs.Store.{StoreId, readers_of}
use Rattle.shelf.proofs.seats.Newcomers.{newcomers_counted}
use Rattle.session.proofs.store.Store.open.Goals as goal

pub sessions_of-sessions-requires-clause-room : goal.sessions_of-sessions-requires-clause-room
sessions_of-sessions-requires-clause-room g c =
    let store = c.blank.view_is ∙ c.requires in
    omega (
      arith,
      c.in-Ok.ensures.capacity,
      c.len.ensures,
      c.blank.inside.readers.ok,
      ap length c.blank.invariant.0,
      newcomers_counted c.blank.inside.desk,
      ap (λ (z : StoreId). readers_of z) store,
    )
