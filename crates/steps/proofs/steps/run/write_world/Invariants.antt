-- The lines so far were done and their answers written, and no write has failed.
use Rattle.std.proofs.Common.{◌≡◌, length}
use Rattle.words.specs.TextLines.{lines_of}
use Rattle.steps.proofs.Hearing.{IsHeard}
use Rattle.steps.proofs.steps.run.write_world.Given as goal

abbrev pub invariant-lines : goal.invariant-lines
invariant-lines g l = record {
  heard : IsHeard l.fn.opened.world (lines_of l.lines) (lines_of l.rest)
      (g.W.Sink.held l.initial.writer) (g.W.Sink.held l.writer) l.world;
  none_failed : g.W.Sink.failed_writes l.writer ≡ g.W.Sink.failed_writes l.fn.writer;
}

abbrev pub decreases-lines : goal.decreases-lines
decreases-lines g l = length l.rest
