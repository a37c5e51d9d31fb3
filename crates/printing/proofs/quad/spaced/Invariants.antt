-- The entry at each place so far has the digits of that number after a blank.
use Rattle.std.proofs.Common.{◌≡◌, ◌≤◌, vec_len, vec_capacity}
use Rattle.printing.specs.Putting.{AreSpaced}
use Rattle.printing.proofs.quad.spaced.Given as goal

-- all numbers so far are made, each after a blank, and there is room for the others
abbrev pub invariant-numbers : goal.invariant-numbers
invariant-numbers l = record {
  each : AreSpaced l.number l.words.items;
  many : vec_len l.words ≡ l.number;
  room : 10000 ≤ vec_capacity l.words;
}
