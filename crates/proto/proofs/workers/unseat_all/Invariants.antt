-- Each session is either returned or still in its seat, and no seat is empty.
use Rattle.std.proofs.Common.{◌≡◌, ◌≤◌, ◌++◌, All, length, map, reverse, vec_capacity, Some}
use Rattle.std.specs.Prelude.{IsSome}
use Rattle.proto.proofs.workers.unseat_all.Given as goal

-- the sessions that were taken from their seats are returned, the last one first
abbrev pub invariant-seats : goal.invariant-seats
invariant-seats g l = record {
  all : map Some l.sessions.items ++ reverse l.seats.items ≡ reverse l.fn.seats.items;
  full : All IsSome l.seats.items;
  room : length l.fn.seats.items ≤ vec_capacity l.sessions;
}

abbrev pub decreases-seats : goal.decreases-seats
decreases-seats g l = goal.left-seats g l
