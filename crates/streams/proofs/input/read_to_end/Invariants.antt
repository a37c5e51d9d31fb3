-- The buffer holds exactly what was taken of the reader so far.
use Rattle.std.proofs.Common.{◌≡◌, ◌≤◌, vec_len}
use Rattle.metric.specs.Stream.{Takes}
use Rattle.streams.proofs.input.read_to_end.Given as goal

-- what was taken so far stands in the buffer, one byte a turn or more, and no read has failed
abbrev pub invariant-turns : goal.invariant-turns
invariant-turns g l = record {
  taken : Takes (g.R.Source.rest l.fn.reader) l.bytes.items (g.R.Source.rest l.reader);
  none_failed : g.R.Source.failed_reads l.reader ≡ g.R.Source.failed_reads l.fn.reader;
  as_many : l.counter ≤ vec_len l.bytes;
}
