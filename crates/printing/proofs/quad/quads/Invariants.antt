-- The entry at each place so far has the digits of that number.
use Rattle.std.proofs.Common.{◌≡◌, ◌≤◌, vec_len, vec_capacity}
use Rattle.printing.specs.Putting.{AreQuads}
use Rattle.printing.proofs.quad.quads.Given as goal

-- the digits of all numbers so far are made, and there is room for the others
abbrev pub invariant-numbers : goal.invariant-numbers
invariant-numbers l = record {
  each : AreQuads l.number l.quads.items;
  many : vec_len l.quads ≡ l.number;
  room : 10000 ≤ vec_capacity l.quads;
}
