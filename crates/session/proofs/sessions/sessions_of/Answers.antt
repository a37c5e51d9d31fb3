-- Each reader is named, and its session added.
use Rattle.std.proofs.Common.{arith, sym, ap, List, ◌∙◌, ◌++◌}
use Rattle.std.specs.Vec.{vec_capacity}
use Rattle.shelf.specs.Open.{Newcomer}
use Rattle.shelf.proofs.seats.Newcomers.{newcomer_of, room_left}
use Rattle.session.proofs.OpeningLemmas.{sessions_counted, sessions_whole, nothing_left}
use Rattle.session.proofs.sessions.sessions_of.Goals as goal

pub named-seat-requires : goal.named-seat-requires
named-seat-requires g c =
    newcomer_of g.Id.StoreName.store _ c.loop-reader.yielded _ c.in-Some.reader c.requires.readers
    (ap (λ (ns : List Newcomer). c.loop-reader.yielded ++ ns) (sym c.in-Some.ensures.steps.0)
    ∙ c.loop-reader.invariant.2)

pub push_reserved-requires : goal.push_reserved-requires
push_reserved-requires g c =
    let parts = ap (λ (ns : List Newcomer). c.loop-reader.yielded ++ ns)
    (sym c.in-Some.ensures.steps.0) ∙ c.loop-reader.invariant.2 in
    omega (
      arith,
      c.loop-reader.sessions.ok,
      room_left g.Id.StoreName.store _ c.loop-reader.yielded _ c.in-Some.reader _
          (vec_capacity c.loop-reader.sessions) c.requires.readers parts
          (sessions_counted c.loop-reader.yielded c.loop-reader.sessions.items
          c.loop-reader.invariant.3) (omega (arith, c.requires.room, c.loop-reader.invariant.4)),
    )

pub returns : goal.returns
returns g c =
    sessions_whole g.Id.StoreName.store _ c.loop-reader.yielded
    c.loop-reader.reader-iterator.rest.items _ c.requires.readers c.loop-reader.invariant.2
    (nothing_left c.loop-reader.reader-iterator.rest.items
    (omega (arith, c.in-None.ensures.steps.0, c.loop-reader.reader-iterator.rest.ok)))
    c.loop-reader.invariant.3
