-- The buffer holds the bytes so far, in the order in which they were read.
use Rattle.std.proofs.Common.{◌≡◌, ◌-◌, ◌≤◌}
use Rattle.streams.specs.Gathered.{Gathers, PutsCount}
use Rattle.streams.proofs.gather.read_count.Given as goal

-- what was read so far stands in the buffer, and no read has failed
abbrev pub invariant-turns : goal.invariant-turns
invariant-turns g l = record {
  gathered : Gathers (g.R.Source.rest l.fn.reader) l.fn.bytes.items l.bytes.items
      (g.R.Source.rest l.reader);
  none_failed : g.R.Source.failed_reads l.reader ≡ g.R.Source.failed_reads l.fn.reader;
  count : PutsCount l.done l.fn.bytes.items l.bytes.items;
  within : l.done ≤ l.count;
  written : g.R.Source.written l.reader ≡ g.R.Source.written l.fn.reader;
}

abbrev pub decreases-turns : goal.decreases-turns
decreases-turns g l = l.count - l.done
