-- Another request and its reply follow those of the lines before; where a call fails, a prefix of
-- them has passed.
use Rattle.std.proofs.Common.{◌∙◌, ap, arith, Err, Ok, refl}
use Rattle.std.proofs.lemmas.Result.{err_from_is_err_and}
use Rattle.ask.proofs.Faults.{ended, no_fault, no_reply, no_standard, passed_other, passed_same}
use Rattle.ask.proofs.Gathering.{PassesFront-both, PassesFront-whole, PassesOn-both}
use Rattle.ask.proofs.Gathering.{PassesOn-nothing}
use Rattle.ask.proofs.NetFaults.{IsNetFault-all, IsNetFault-behind}
use Rattle.ask.proofs.Requests.{Asks-both, Asks-nothing, Asks-passes, AsksAll-both}
use Rattle.ask.proofs.Talks.{Breaks-behind, Breaks-none, Completes-behind, Rounds-more}
use Rattle.ask.proofs.Talks.{Rounds-none}
use Rattle.ask.proofs.ask.ask_lines.Goals as goal

pub lines-init : goal.lines-init
lines-init g c = record {
  asked = Asks-nothing _ _;
  printed = PassesOn-nothing _ _;
  order = Rounds-none _;
  stream_reads = refl;
  stream_writes = refl;
  reader = refl;
  writer = refl;
}

pub ask_line-requires : goal.ask_line-requires
ask_line-requires g c = record {
  stream_reads = rw c.lines.invariant.stream_reads c.requires.stream_reads;
  stream_writes = rw c.lines.invariant.stream_writes c.requires.stream_writes;
  reader = rw c.lines.invariant.reader c.requires.reader;
  writer = rw c.lines.invariant.writer c.requires.writer;
}

pub lines-preserved : goal.lines-preserved
lines-preserved g c = record {
  asked = Asks-both _ _ _ _ _ _ c.lines.invariant.asked
      (c.in_ok-ask_line.ensures.went (ap Ok c.if-not-branch.false));
  printed = PassesOn-both _ _ _ _ _ _ c.lines.invariant.printed c.in_ok-ask_line.ensures.printed;
  order = Rounds-more _ _ _ _ c.lines.invariant.order
      (c.in_ok-ask_line.ensures.exchanged (ap Ok c.if-not-branch.false));
  stream_reads = c.in_ok-ask_line.ensures.stream_reads (no_fault _ _)
      ∙ c.lines.invariant.stream_reads;
  stream_writes = c.in_ok-ask_line.ensures.stream_writes (no_fault _ _)
      ∙ c.lines.invariant.stream_writes;
  reader = c.in_ok-ask_line.ensures.reader (no_fault _ _) ∙ c.lines.invariant.reader;
  writer = c.in_ok-ask_line.ensures.writer (no_fault _ _) ∙ c.lines.invariant.writer;
}

pub returns-in_err-ask_line : goal.returns-in_err-ask_line
returns-in_err-ask_line g c =
    let p = err_from_is_err_and c.from_residual.result c.from_residual.ensures.1 in
    let before = c.lines.invariant in
    let asked = c.in_err-ask_line.ensures in
    rw (p.1 ∙ ap Err p.2) (record {
      sent = PassesFront-both _ _ _ _ _ _ (Asks-passes _ _ _ _ before.asked) asked.sent;
      printed = tt;
      cut = PassesFront-both _ _ _ _ _ _ before.printed asked.cut;
      stream_reads = λ other. asked.stream_reads (passed_other _ _ _ _ refl refl other)
          ∙ before.stream_reads;
      stream_writes = λ other. asked.stream_writes (passed_other _ _ _ _ refl refl other)
          ∙ before.stream_writes;
      net = λ net. IsNetFault-behind _ _ _ _ before.order
          (rw (before.stream_reads, before.stream_writes)
          at (asked.net (passed_same _ _ _ _ refl refl net)));
      reader = λ other. asked.reader (passed_other _ _ _ _ refl refl other) ∙ before.reader;
      writer = λ other. asked.writer (passed_other _ _ _ _ refl refl other) ∙ before.writer;
      failed = λ failed. rw (← before.reader, ← before.writer)
          (asked.failed (passed_same _ _ _ _ refl refl failed));
      asked = tt;
      whole = tt;
      order = Breaks-behind _ _ _ before.order.all (asked.order (no_reply _ _));
    })

pub returns-then-not-branch : goal.returns-then-not-branch
returns-then-not-branch g c =
    let before = c.lines.invariant in
    let asked = c.in_ok-ask_line.ensures in
    record {
      sent = PassesFront-both _ _ _ _ _ _ (Asks-passes _ _ _ _ before.asked) asked.sent;
      printed = PassesOn-both _ _ _ _ _ _ before.printed asked.printed;
      cut = tt;
      stream_reads = λ other. asked.stream_reads (no_fault _ _) ∙ before.stream_reads;
      stream_writes = λ other. asked.stream_writes (no_fault _ _) ∙ before.stream_writes;
      net = λ net. absurd (no_fault _ _ net);
      reader = λ other. asked.reader (no_fault _ _) ∙ before.reader;
      writer = λ other. asked.writer (no_fault _ _) ∙ before.writer;
      failed = λ failed. absurd (no_fault _ _ failed);
      asked = AsksAll-both _ _ _ _ _ _ _ _ _ before.printed.bytes before.asked
          before.printed.written (asked.over (ap Ok c.if-not-branch.true));
      whole = Completes-behind _ _ _ before.order.all (asked.whole (ap Ok c.if-not-branch.true));
      order = Breaks-behind _ _ _ before.order.all (asked.order (ended _ c.if-not-branch.true));
    }

pub returns : goal.returns
returns g c =
    let before = c.lines.invariant in
    record {
      sent = PassesFront-whole _ _ _ _ (Asks-passes _ _ _ _ before.asked);
      printed = tt;
      cut = PassesFront-whole _ _ _ _ before.printed;
      stream_reads = λ other. before.stream_reads;
      stream_writes = λ other. before.stream_writes;
      net = λ net. IsNetFault-all _ _ _ before.order (omega (arith));
      reader = λ other. before.reader;
      writer = λ other. before.writer;
      failed = λ failed. absurd (no_standard _ refl failed);
      asked = tt;
      whole = tt;
      order = Breaks-none _ _ before.order.all;
    }
