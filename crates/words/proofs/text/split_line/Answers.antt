-- A text with an LF has the line before its first LF and then the lines of the rest; without one it
-- has no line.
use Rattle.std.proofs.Common.{sym}
use Rattle.words.proofs.LineSplitting.{lines_of-more, lines_of-none}
use Rattle.words.proofs.text.split_line.Goals as goal

pub returns-clause-lines : goal.returns-clause-lines
returns-clause-lines c =
    rw c.without_cr.ensures (lines_of-more c.args.text.now c.in_ok-end.end
    (sym c.in_ok-end.ensures))

pub returns-in_err-end-clause-lines : goal.returns-in_err-end-clause-lines
returns-in_err-end-clause-lines c =
    rw c.from_residual.ensures (lines_of-none c.args.text.now (sym c.in_err-end.ensures))
