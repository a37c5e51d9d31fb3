-- No read has failed, and no byte of the window is taken or added.
use Rattle.std.proofs.Common.{◌≡◌}
use Rattle.pbm.proofs.source.pass_some.Given as goal

abbrev pub invariant-turns : goal.invariant-turns
invariant-turns g l = record {
  none_failed : g.R.Source.failed_reads l.reader ≡ g.R.Source.failed_reads l.fn.reader;
  bytes : l.window.bytes ≡ l.fn.window.bytes;
}
