-- The cells that are searched lie further right, at growing distances.
use Rattle.std.proofs.Common.{◌-◌, ◌<◌, ◌≤◌, length}
use Rattle.envelope.proofs.beside.next_found.Given as goal

abbrev pub invariant-groups : goal.invariant-groups
invariant-groups g l = record {
  further : l.start < l.at;
  some : 16 ≤ l.apart;
  few : l.apart ≤ l.at;
}

abbrev pub decreases-groups : goal.decreases-groups
decreases-groups g l = length l.entries - l.at
