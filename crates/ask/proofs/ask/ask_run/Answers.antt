-- A run that ends early has written a prefix of what the server said, and then why it ends.
use Rattle.std.proofs.Common.{◌≢◌, ◌∙◌, Err, ap, refl, sym}
use Rattle.ask.proofs.Faults.{is_standard, no_failure, no_fault, one_failed, other_fault}
use Rattle.ask.proofs.Faults.{refused, well_stopped}
use Rattle.ask.specs.declared.ask.Stop.TheVariants.{Standard}
use Rattle.ask.proofs.Gathering.{BreaksOff-stop, EndsEarly-line}
use Rattle.ask.proofs.NetFaults.{IsNetFault-printed}
use Rattle.ask.proofs.Talks.{Converses-done, Converses-stop}
use Rattle.ask.proofs.ask.ask_run.Goals as goal

pub returns-in-Ok : goal.returns-in-Ok
returns-in-Ok g c =
    let asked = c.in-Ok.ensures in
    record {
      sent = asked.sent;
      asked = λ done. asked.asked;
      printed = λ done. asked.printed;
      well = λ done. (
        asked.reader (no_fault _ _),
        asked.writer (no_fault _ _),
        asked.stream_reads (no_fault _ _),
        asked.stream_writes (no_fault _ _),
      );
      failed_read = λ failed. absurd (failed (asked.reader (no_fault _ _)));
      failed_write = λ failed. absurd (failed (asked.writer (no_fault _ _)));
      ended = λ reads writes other. absurd (other refl);
      whole = λ done. asked.whole;
      order = Converses-done _ _ asked.order;
      one_failure = no_failure _ _ _ _ (asked.reader (no_fault _ _)) (asked.writer (no_fault _ _));
    }

pub returns : goal.returns
returns g c =
    let asked = c.in-Err.ensures in
    let end = c.end.ensures in
    record {
      sent = asked.sent;
      asked = λ done. absurd (refused _ end.status done);
      printed = λ done. absurd (refused _ end.status done);
      well = λ done. absurd (refused _ end.status done);
      failed_read = λ failed. (
        rw (ap g.W.Sink.held (end.standard (is_standard _ asked.reader failed))) asked.cut,
        end.status,
      );
      failed_write = λ failed. (
        BreaksOff-stop _ _ _ _ _ _ _ _
            (λ net. IsNetFault-printed _ _ _ _ _ _ (asked.net (ap Err net)))
            (λ other. (
              asked.stream_reads (other_fault _ _ other),
              asked.stream_writes (other_fault _ _ other),
            ))
            asked.cut end.front,
        end.status,
      );
      ended = λ reads writes other.
          let calm : c.in-Err.stop ≢ Standard = λ standard. well_stopped _ _ _ _ _ reads writes
          (ap g.W.Sink.failed_writes (end.standard standard)) (asked.failed (ap Err standard)) in (
            EndsEarly-line _ _ _ _ _ _ _ _ calm
                (λ net. IsNetFault-printed _ _ _ _ _ _ (asked.net (ap Err net)))
                (λ other. (
                  asked.stream_reads (other_fault _ _ other),
                  asked.stream_writes (other_fault _ _ other),
                )) asked.cut
                (end.whole (writes ∙ sym (asked.writer (other_fault _ _ calm)))),
            end.status,
          );
      whole = λ done. absurd (refused _ end.status done);
      order = Converses-stop _ _ _ _ asked.order end.front refl refl refl;
      one_failure = one_failed c.in-Err.stop _ _ _ _ _ asked.failed asked.reader asked.writer
          (λ standard. ap g.W.Sink.failed_writes (end.standard standard)) end.counts;
    }
