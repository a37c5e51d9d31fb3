-- The part is taken after all that was read for it; a fault at the end of the source is the
-- image's.
use Rattle.std.proofs.Common.{◌∙◌, ap, sym}
use Rattle.pbm.specs.Faults.{pixels}
use Rattle.pbm.proofs.Following.{failed-so, Follows-read, IsFaultOf-weaker, Meets-read, Meets-end}
use Rattle.pbm.proofs.window.Window.next_word.Goals as goal

pub returns-in_err-read_after-in-Err-clause-fault :
    goal.returns-in_err-read_after-in-Err-clause-fault
returns-in_err-read_after-in-Err-clause-fault g c =
    failed-so _ _ _ c.from_residual.ensures.1
    (IsFaultOf-weaker c.in_err-read_after-in-Err.field-0.0
    (λ fault met. Meets-read c.turns.invariant.reads (Meets-end met.1
    (rw met.0 (ap (pixels c.args.count) (sym c.unread.ensures) ∙ c.in-Err.ensures.fault))))
    c.in_err-read_after-in-Err.ensures.fault)

pub turns-preserved : goal.turns-preserved
turns-preserved g c = record {
  open_still = c.read_after.ensures.«open»;
  reads = Follows-read c.turns.invariant.reads c.in_ok-read_after-in-Err.ensures.reads;
  none_failed = c.in_ok-read_after-in-Err.ensures.counts ∙ c.turns.invariant.none_failed;
}
