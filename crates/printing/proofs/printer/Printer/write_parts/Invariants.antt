-- The text of the parts before this one is written, and no write has failed.
use Rattle.std.proofs.Common.{◌≡◌}
use Rattle.metric.specs.Stream.{Appends}
use Rattle.printing.specs.Parts.{parts_text}
use Rattle.printing.proofs.printer.Printer.write_parts.Given as goal

-- the parts so far are written, and no write has failed
abbrev pub invariant-parts : goal.invariant-parts
invariant-parts g l = record {
  written : Appends (g.W.Sink.held l.fn.writer)
      (parts_text l.self.nearest l.self.table l.self.rows l.from l.part-index)
      (g.W.Sink.held l.writer);
  none_failed : g.W.Sink.failed_writes l.writer ≡ g.W.Sink.failed_writes l.fn.writer;
}
