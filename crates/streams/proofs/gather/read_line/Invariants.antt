-- The buffer holds what was read so far, and no line has ended in it.
use Rattle.std.proofs.Common.{◌≡◌, ◌≤◌, vec_len}
use Rattle.streams.specs.Gathered.{Gathers, PutsUnended}
use Rattle.streams.proofs.gather.read_line.Given as goal

-- what was read so far stands in the buffer, one byte a turn, no line ends in it, and no read has
-- failed
abbrev pub invariant-bytes : goal.invariant-bytes
invariant-bytes g l = record {
  gathered : Gathers (g.R.Source.rest l.fn.reader) l.fn.bytes.items l.bytes.items
      (g.R.Source.rest l.reader);
  none_failed : g.R.Source.failed_reads l.reader ≡ g.R.Source.failed_reads l.fn.reader;
  unended : PutsUnended l.fn.bytes.items l.bytes.items;
  as_many : l.counter ≤ vec_len l.bytes;
  written : g.R.Source.written l.reader ≡ g.R.Source.written l.fn.reader;
}
