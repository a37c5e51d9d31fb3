-- Each session is either in a seat or still to be seated, and each seat so far is full.
use Rattle.std.proofs.Common.{◌≡◌, ◌≤◌, ◌++◌, All, length, map, reverse, vec_capacity, Some}
use Rattle.std.specs.Prelude.{IsSome}
use Rattle.proto.proofs.workers.seat_all.Given as goal

-- the sessions that were taken are seated, the last one first
abbrev pub invariant-sessions : goal.invariant-sessions
invariant-sessions g l = record {
  all : l.seats.items ++ reverse (map Some l.sessions.items)
      ≡ reverse (map Some l.fn.sessions.items);
  full : All IsSome l.seats.items;
  room : length l.fn.sessions.items ≤ vec_capacity l.seats;
  rest : length l.fn.sessions.items ≤ vec_capacity l.sessions;
}

abbrev pub decreases-sessions : goal.decreases-sessions
decreases-sessions g l = goal.left-sessions g l
