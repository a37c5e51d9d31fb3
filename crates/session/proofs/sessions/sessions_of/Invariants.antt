-- The readers that were taken are the first sessions.
use Rattle.std.proofs.Common.{◌≡◌, ◌++◌, map}
use Rattle.std.specs.Vec.{vec_capacity}
use Rattle.shelf.specs.Roles.{reader_at_opening}
use Rattle.session.proofs.sessions.sessions_of.Given as goal

abbrev pub invariant-loop-reader : goal.invariant-loop-reader
invariant-loop-reader g l =
    (goal.iterator-loop-reader g).can_next l.reader-iterator
    × (goal.iterator-loop-reader g).is_finite l.reader-iterator
    × (l.yielded ++ l.reader-iterator.rest.items ≡ l.fn.readers.items)
    × (l.sessions.items ≡ map (λ n. reader_at_opening n.number) l.yielded)
    × (vec_capacity l.sessions ≡ vec_capacity l.initial.sessions)
