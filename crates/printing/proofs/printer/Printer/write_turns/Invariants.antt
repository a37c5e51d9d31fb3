-- At the start of a turn the rows above are written, and the full parts hold the next ones.
use Rattle.std.proofs.Common.{◌≡◌, ◌-◌, ◌<◌, min}
use Rattle.metric.specs.Stream.{Appends}
use Rattle.printing.specs.Parts.{AreShares, ShareRows}
use Rattle.printing.proofs.PartLemmas.{rows_between}
use Rattle.printing.proofs.printer.Printer.write_turns.Given as goal

-- the rows above are written, those from there on are put into the full parts, and no write has
-- failed
abbrev pub invariant-turns : goal.invariant-turns
invariant-turns g l = record {
  written : Appends (g.W.Sink.held l.fn.writer)
      (rows_between l.self.nearest l.self.table.width l.self.table.nears 0
      (min l.self.table.height l.from)) (g.W.Sink.held l.writer);
  none_failed : g.W.Sink.failed_writes l.writer ≡ g.W.Sink.failed_writes l.fn.writer;
  put : ShareRows l.self.nearest l.self.table l.self.rows l.from l.full.items;
  full : AreShares l.self.nearest l.self.table.width l.self.rows l.full.items;
  free : AreShares l.self.nearest l.self.table.width l.self.rows l.free.items;
  height_is : l.height ≡ l.self.table.height;
  from : l.from < 200000;
}

abbrev pub decreases-turns : goal.decreases-turns
decreases-turns g l = l.height - l.from
