-- Each request so far went out whole, and its reply was written.
use Rattle.std.proofs.Common.{◌≡◌}
use Rattle.ask.specs.Talking.{Rounds, talk_at}
use Rattle.ask.specs.Passing.{Asks, PassesOn}
use Rattle.ask.proofs.ask.ask_lines.Given as goal

-- all lines so far were sent, one a turn, all replies so far written, and no call has failed
abbrev pub invariant-lines : goal.invariant-lines
invariant-lines g l = record {
  asked : Asks (g.R.Source.rest l.fn.reader) (g.R.Source.rest l.reader) (g.S.Sink.held l.fn.stream)
      (g.S.Sink.held l.stream);
  printed : PassesOn (g.S.Source.rest l.fn.stream) (g.S.Source.rest l.stream)
      (g.W.Sink.held l.fn.writer) (g.W.Sink.held l.writer);
  order : Rounds l.counter
      (talk_at (g.R.Source.rest l.fn.reader) (g.S.Sink.held l.fn.stream)
      (g.S.Source.rest l.fn.stream) (g.W.Sink.held l.fn.writer))
      (talk_at (g.R.Source.rest l.reader) (g.S.Sink.held l.stream) (g.S.Source.rest l.stream)
      (g.W.Sink.held l.writer));
  stream_reads : g.S.Source.failed_reads l.stream ≡ g.S.Source.failed_reads l.fn.stream;
  stream_writes : g.S.Sink.failed_writes l.stream ≡ g.S.Sink.failed_writes l.fn.stream;
  reader : g.R.Source.failed_reads l.reader ≡ g.R.Source.failed_reads l.fn.reader;
  writer : g.W.Sink.failed_writes l.writer ≡ g.W.Sink.failed_writes l.fn.writer;
}
