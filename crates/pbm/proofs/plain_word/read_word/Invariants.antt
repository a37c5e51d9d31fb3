-- The pixels before this place were read, and no others.
use Rattle.std.proofs.Common.{◌-◌, ◌^◌, ◌<◌, ◌≤◌}
use Rattle.std.specs.Int.{bit_at}
use Rattle.pbm.proofs.PartReads.{IsPartRead}
use Rattle.pbm.proofs.plain_word.read_word.Given as goal

abbrev pub invariant-turns : goal.invariant-turns
invariant-turns l = record {
  within : l.place ≤ l.fn.count;
  below : l.word < 2 ^ l.place;
  read : IsPartRead l.fn.count l.fn.bytes l.place (bit_at l.word) l.rest;
}

abbrev pub decreases-turns : goal.decreases-turns
decreases-turns l = l.count - l.place
