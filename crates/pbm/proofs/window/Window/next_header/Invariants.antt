-- What was read so far stands after what was there, nothing is taken, and no read has failed.
use Rattle.std.proofs.Common.{◌≡◌, ◌-◌, ◌^◌, cond, length}
use Rattle.pbm.specs.Windows.{IsOpen, ReadsOn, unread}
use Rattle.pbm.proofs.window.Window.next_header.Given as goal

abbrev pub invariant-turns : goal.invariant-turns
invariant-turns g l = record {
  open_still : IsOpen l.self (g.R.Source.rest l.reader);
  reads : ReadsOn (g.R.Source.rest l.fn.reader) l.fn.self (g.R.Source.rest l.reader) l.self;
  none_failed : g.R.Source.failed_reads l.reader ≡ g.R.Source.failed_reads l.fn.reader;
}

abbrev pub decreases-turns : goal.decreases-turns
decreases-turns g l = cond l.self.ended 0 (2 ^ 64 - length (unread l.self))
