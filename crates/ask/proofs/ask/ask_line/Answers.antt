-- One request goes out and its reply is written; after `BYE`, or where no whole request is left,
-- all have been asked.
use Rattle.std.proofs.Common.{◌∙◌, ap, Ok, Err, refl}
use Rattle.std.proofs.lemmas.Result.{err_from_is_err_and}
use Rattle.metric.proofs.Appending.{AppendsFront-whole}
use Rattle.ask.proofs.Faults.{ended, more_said, no_fault, no_reply, not_going, over_said}
use Rattle.ask.proofs.Faults.{passed_other, passed_same, read_failed, write_failed}
use Rattle.ask.proofs.Gathering.{PassesOn-nothing, PassesFront-read, PassesFront-whole}
use Rattle.ask.proofs.NetFaults.{unanswered}
use Rattle.ask.proofs.Requests.{Asks-one, AsksAll-bye, AsksAll-ended}
use Rattle.ask.proofs.Talks.{Breaks-complete, Breaks-first, Completes-bye, Rounds-one}
use Rattle.ask.proofs.Talks.{Completes-ended, cut_off_printing, cut_off_reading, cut_off_wire}
use Rattle.ask.proofs.Talks.{no_bye}
use Rattle.ask.proofs.ask.ask_line.Goals as goal

pub returns-in_err-read_request : goal.returns-in_err-read_request
returns-in_err-read_request g c =
    let p = err_from_is_err_and c.from_residual.result c.from_residual.ensures.1 in
    let read = c.in_err-read_request.ensures in
    rw (p.1 ∙ ap Err p.2) (record {
      went = λ more. absurd (no_reply _ _ more);
      over = λ over. absurd (no_reply _ _ over);
      sent = PassesFront-read _ _ _ read.taken;
      printed = tt;
      cut = PassesFront-whole _ _ _ _ (PassesOn-nothing _ _);
      stream_reads = λ other. refl;
      stream_writes = λ other. refl;
      net = λ net. absurd (read.other net);
      reader = read.counts;
      writer = λ other. refl;
      failed = λ failed. read_failed _ _ _ (read.failed failed);
      whole = λ over. absurd (no_reply _ _ over);
      exchanged = λ more. absurd (no_reply _ _ more);
      order = λ other. Breaks-first _ _ (cut_off_reading _ _ read.part refl refl refl);
    })

pub returns-then-not-branch : goal.returns-then-not-branch
returns-then-not-branch g c =
    let read = c.in_ok-read_request.ensures in
    let last = read.ended (ap Ok c.if-not-branch.true) in
    let whole = Completes-ended _ _ record {
      ended = last;
      sent = refl;
      heard = refl;
      printed = refl;
    } in
    record {
      went = λ more. absurd (ended _ refl more);
      over = λ over. AsksAll-ended _ _ _ _ _ last;
      sent = PassesFront-read _ _ _ read.taken;
      printed = PassesOn-nothing _ _;
      cut = tt;
      stream_reads = λ other. refl;
      stream_writes = λ other. refl;
      net = λ net. absurd (no_fault _ _ net);
      reader = λ other. read.counts (no_fault _ _);
      writer = λ other. refl;
      failed = λ failed. absurd (no_fault _ _ failed);
      whole = λ over. whole;
      exchanged = λ more. absurd (ended _ refl more);
      order = λ other. Breaks-complete _ _ whole;
    }

pub returns-in_err-exchange : goal.returns-in_err-exchange
returns-in_err-exchange g c =
    let p = err_from_is_err_and c.from_residual-in_err-exchange.result
    c.from_residual-in_err-exchange.ensures.1 in
    let read = c.in_ok-read_request.ensures in
    let request = read.request (ap Ok c.if-not-branch.false) in
    let taken = read.all (ap Ok c.if-not-branch.false) in
    let sent = c.in_err-exchange.ensures in
    let front = rw c.as_slice.ensures.value at sent.front in
    rw (p.1 ∙ ap Err p.2) (record {
      went = λ more. absurd (no_reply _ _ more);
      over = λ over. absurd (no_reply _ _ over);
      sent = record {
        bytes = c.read_request.new.request.items;
        taken = taken;
        written = front;
      };
      printed = tt;
      cut = PassesFront-read _ _ _ sent.taken;
      stream_reads = λ other. (sent.counts (passed_other _ _ _ _ refl refl other)).0;
      stream_writes = λ other. (sent.counts (passed_other _ _ _ _ refl refl other)).1;
      net = λ net. unanswered _ _ _ request taken
          (rw c.as_slice.ensures.value at (sent.fault (passed_same _ _ _ _ refl refl net)));
      reader = λ other. read.counts (no_fault _ _);
      writer = λ other. refl;
      failed = λ failed. absurd (sent.net (passed_same _ _ _ _ refl refl failed));
      whole = λ over. absurd (no_reply _ _ over);
      exchanged = λ more. absurd (no_reply _ _ more);
      order = λ other. Breaks-first _ _ (cut_off_wire _ _ _ request taken front
          (rw c.as_slice.ensures.value at sent.part) (rw c.as_slice.ensures.value at sent.cut)
          refl);
    })

pub returns-in_err-print : goal.returns-in_err-print
returns-in_err-print g c =
    let p = err_from_is_err_and c.from_residual-in_err-print.result
    c.from_residual-in_err-print.ensures.1 in
    let read = c.in_ok-read_request.ensures in
    let request = read.request (ap Ok c.if-not-branch.false) in
    let taken = read.all (ap Ok c.if-not-branch.false) in
    let heard = c.in_ok-exchange.ensures in
    let sent = rw c.as_slice.ensures.value at heard.sent in
    let told = rw c.as_slice-2.ensures.value at c.in_err-print.ensures.front in
    rw (p.1 ∙ ap Err p.2) (record {
      went = λ more. absurd (no_reply _ _ more);
      over = λ over. absurd (no_reply _ _ over);
      sent = record {
        bytes = c.read_request.new.request.items;
        taken = taken;
        written = AppendsFront-whole _ _ _ sent;
      };
      printed = tt;
      cut = record { bytes = c.exchange.new.reply.items; taken = heard.all; written = told };
      stream_reads = λ other. (heard.counts (no_fault _ _)).0;
      stream_writes = λ other. (heard.counts (no_fault _ _)).1;
      net = λ net. absurd (let standard = c.in_err-print.ensures.stop in cc);
      reader = λ other. read.counts (no_fault _ _);
      writer = λ other. absurd (other (ap Err c.in_err-print.ensures.stop));
      failed = λ failed. write_failed _ _ _ _ (read.counts (no_fault _ _))
          c.in_err-print.ensures.counts;
      whole = λ over. absurd (no_reply _ _ over);
      exchanged = λ more. absurd (no_reply _ _ more);
      order = λ other. Breaks-first _ _ (cut_off_printing _ _ _ c.exchange.new.reply.items request
          (rw c.as_slice.ensures.value at heard.reply) taken sent heard.all told);
    })

pub returns : goal.returns
returns g c =
    let read = c.in_ok-read_request.ensures in
    let request = read.request (ap Ok c.if-not-branch.false) in
    let taken = read.all (ap Ok c.if-not-branch.false) in
    let heard = c.in_ok-exchange.ensures in
    let sent = rw c.as_slice.ensures.value at heard.sent in
    let reply = rw c.as_slice.ensures.value at heard.reply in
    let told = rw c.as_slice-2.ensures.value at c.in_ok-print.ensures.all in
    let asked = Asks-one _ _ _ _ c.read_request.new.request.items request taken sent in
    let says = rw c.as_slice-5.ensures.value at c.is_bye.ensures in
    record {
      went = λ more. asked;
      over = λ over. AsksAll-bye _ _ _ _ _ _ c.exchange.new.reply.items c.is_bye.result
          (over_said _ over) says asked told;
      sent = record {
        bytes = c.read_request.new.request.items;
        taken = taken;
        written = AppendsFront-whole _ _ _ sent;
      };
      printed = record { bytes = c.exchange.new.reply.items; taken = heard.all; written = told };
      cut = tt;
      stream_reads = λ other. (heard.counts (no_fault _ _)).0;
      stream_writes = λ other. (heard.counts (no_fault _ _)).1;
      net = λ net. absurd (no_fault _ _ net);
      reader = λ other. read.counts (no_fault _ _);
      writer = λ other. c.in_ok-print.ensures.counts;
      failed = λ failed. absurd (no_fault _ _ failed);
      whole = λ over. Completes-bye _ _ c.read_request.new.request.items
          c.exchange.new.reply.items c.is_bye.result (over_said _ over) says request reply taken
          sent heard.all told;
      exchanged = λ more. Rounds-one _ _ c.read_request.new.request.items
          c.exchange.new.reply.items request reply
          (no_bye _ c.is_bye.result (more_said _ more) says) taken sent heard.all told;
      order = λ other. Breaks-complete _ _ (Completes-bye _ _ c.read_request.new.request.items
          c.exchange.new.reply.items c.is_bye.result (not_going _ other) says request reply taken
          sent heard.all told);
    }
