-- No read has failed, and a block is counted each turn.
use Rattle.std.proofs.Common.{◌≡◌, ◌≤◌, vec_len}
use Rattle.pbm.proofs.source.pass_rest.Given as goal

abbrev pub invariant-turns : goal.invariant-turns
invariant-turns g l = record {
  none_failed : g.R.Source.failed_reads l.reader ≡ g.R.Source.failed_reads l.fn.reader;
  as_many : l.counter ≤ vec_len l.window.bytes;
}
