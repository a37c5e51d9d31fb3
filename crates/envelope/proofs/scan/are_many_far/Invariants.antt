-- Where a column so far counts, there is one with an obstacle.
use Rattle.std.proofs.Common.{◌<◌, ◌≤◌}
use Rattle.envelope.specs.Scans.{HasColumn}
use Rattle.envelope.proofs.scan.are_many_far.Given as goal

abbrev pub invariant-columns : goal.invariant-columns
invariant-columns l = record {
  few : l.count ≤ l.column;
  some : 0 < l.count → HasColumn l.entries;
}
