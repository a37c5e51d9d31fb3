-- Another byte joins what was gathered, and the line ends at the first LF; at the reader's end
-- there was none.
use Rattle.std.proofs.Common.{◌+◌, ◌∙◌, ap, arith, rules}
use Rattle.std.proofs.lemmas.Result.{err_from_is_err_and}
use Rattle.streams.proofs.CutLines.{line_behind}
use Rattle.streams.proofs.Gathering.{Gathers-both, taken_behind, PutsLine-end, PutsUnended-more}
use Rattle.streams.proofs.Gathering.{ended_unended}
use Rattle.streams.proofs.gather.read_line.Goals as goal

pub returns-in_err-read_byte-clause-taken : goal.returns-in_err-read_byte-clause-taken
returns-in_err-read_byte-clause-taken g c =
    let part = c.in_err-read_byte.ensures.part in
    taken_behind _ _ _ _ _ c.bytes.invariant.gathered (part.bytes, part.taken)

pub bytes-preserved : goal.bytes-preserved
bytes-preserved g c = record {
  gathered = Gathers-both _ _ _ _ _ _ c.bytes.invariant.gathered c.in_ok-read_byte.ensures.all;
  none_failed = c.in_ok-read_byte.ensures.counts (λ e. absurd cc) ∙ c.bytes.invariant.none_failed;
  unended = PutsUnended-more _ _ _ _ c.bytes.invariant.unended c.in_ok-read_byte.ensures.byte
      (search rules);
  as_many = (let more = c.in_ok-read_byte.ensures.len in let many = c.bytes.invariant.as_many in
      omega (arith, more, many));
  written = c.in_ok-read_byte.ensures.written ∙ c.bytes.invariant.written;
}

pub returns-then-branch-eq10-clause-all : goal.returns-then-branch-eq10-clause-all
returns-then-branch-eq10-clause-all g c =
    Gathers-both _ _ _ _ _ _ c.bytes.invariant.gathered c.in_ok-read_byte.ensures.all

pub returns-then-branch-eq10-clause-taken : goal.returns-then-branch-eq10-clause-taken
returns-then-branch-eq10-clause-taken g c =
    let all = c.in_ok-read_byte.ensures.all in
    taken_behind _ _ _ _ _ c.bytes.invariant.gathered (all.bytes, all.taken)

pub returns-then-branch-eq10-clause-line : goal.returns-then-branch-eq10-clause-line
returns-then-branch-eq10-clause-line g c =
    PutsLine-end _ _ _ _ c.bytes.invariant.unended c.in_ok-read_byte.ensures.byte (search rules)

pub returns-in_err-read_byte-clause-ended : goal.returns-in_err-read_byte-clause-ended
returns-in_err-read_byte-clause-ended g c = λ ended.
    ended_unended _ _ _ _ _ _ c.bytes.invariant.gathered c.bytes.invariant.unended
    (c.read_byte.ensures.ended (search rules))

pub returns-in_err-read_byte-clause-part : goal.returns-in_err-read_byte-clause-part
returns-in_err-read_byte-clause-part g c =
    let p = err_from_is_err_and c.from_residual.result c.from_residual.ensures.1 in
    rw p.1 (line_behind _ _ _ _ _ c.bytes.invariant.gathered c.bytes.invariant.unended
    c.in_err-read_byte.ensures.part)

pub returns-in_err-read_byte-clause-failed : goal.returns-in_err-read_byte-clause-failed
returns-in_err-read_byte-clause-failed g c = λ failed.
    c.read_byte.ensures.failed (search rules)
    ∙ ap (λ n. n + 1) c.bytes.invariant.none_failed

pub returns-in_err-read_byte-clause-written : goal.returns-in_err-read_byte-clause-written
returns-in_err-read_byte-clause-written g c =
    c.read_byte.ensures.written ∙ c.bytes.invariant.written

pub returns-then-branch-eq10-clause-written : goal.returns-then-branch-eq10-clause-written
returns-then-branch-eq10-clause-written g c =
    c.read_byte.ensures.written ∙ c.bytes.invariant.written

pub returns-then-branch-eq10-clause-counts : goal.returns-then-branch-eq10-clause-counts
returns-then-branch-eq10-clause-counts g c = λ _.
    c.in_ok-read_byte.ensures.counts (λ e. absurd cc) ∙ c.bytes.invariant.none_failed
