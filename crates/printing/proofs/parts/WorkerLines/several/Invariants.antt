-- The places so far are made, and there is room for the others.
use Rattle.std.proofs.Common.{◌≡◌, ◌≤◌, All, vec_len, vec_capacity}
use Rattle.printing.specs.Parts.{IsShare}
use Rattle.printing.proofs.parts.WorkerLines.several.Given as goal

-- Each place so far has room for its rows, there are as many as turns, and there is room for the
-- rest.
abbrev pub invariant-parts : goal.invariant-parts
invariant-parts l = record {
  each : All (IsShare l.nearest l.width l.rows) l.parts.items;
  many : vec_len l.parts ≡ l._place;
  room : l.count ≤ vec_capacity l.parts;
}
