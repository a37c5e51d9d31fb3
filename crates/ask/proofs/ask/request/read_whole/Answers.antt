-- What is read is a line and the bytes that it counts, or less where the reader ends before.
use Rattle.std.proofs.Common.{◌∙◌, rules}
use Rattle.std.proofs.lemmas.Result.{err_from_is_err_and}
use Rattle.ask.specs.Asking.{counted_by}
use Rattle.streams.proofs.Gathering.{taken_behind}
use Rattle.ask.proofs.CutLines.{TakesAtMost-line, counted_cut}
use Rattle.ask.proofs.Requests.{counted_read, cut_bytes, cut_line, gathered_both}
use Rattle.ask.proofs.ask.request.read_whole.Goals as goal

pub returns-clause-all : goal.returns-clause-all
returns-clause-all g c =
    gathered_both _ _ _ _ _ _ c.read_count.result c.in_ok-read_line.ensures.all
    c.read_count.ensures.all

pub returns-clause-taken : goal.returns-clause-taken
returns-clause-taken g c =
    taken_behind _ _ _ _ _ c.in_ok-read_line.ensures.all c.read_count.ensures.taken

pub returns-clause-request : goal.returns-clause-request
returns-clause-request g c = λ empty.
    counted_read counted_by _ _ _ c.without_end.result.now _ c.read_count.result empty
    c.in_ok-read_line.ensures.line
    (λ front is. c.without_end.ensures front (c.as_slice.ensures.value ∙ is))
    c.counted-count.ensures c.read_count.ensures.count

pub returns-clause-ended : goal.returns-clause-ended
returns-clause-ended g c = λ empty ended.
    cut_bytes counted_by _ _ _ _ _ _ c.without_end.result.now _ empty c.in_ok-read_line.ensures.line
    c.in_ok-read_line.ensures.all
    (λ front is. c.without_end.ensures front (c.as_slice.ensures.value ∙ is))
    c.counted-count.ensures (c.read_count.ensures.ended ended)

pub returns-in_err-read_line-clause-ended : goal.returns-in_err-read_line-clause-ended
returns-in_err-read_line-clause-ended g c =
    λ empty ended. cut_line counted_by _ _ _ _ empty (c.read_line.ensures.ended (search rules))

pub returns-in_err-read_line-clause-part : goal.returns-in_err-read_line-clause-part
returns-in_err-read_line-clause-part g c =
    λ empty. let p = err_from_is_err_and c.from_residual.result c.from_residual.ensures.1 in
    rw p.1 (TakesAtMost-line counted_by _ _ c.in_err-read_line.ensures.part)

pub returns-clause-part : goal.returns-clause-part
returns-clause-part g c = λ empty.
    counted_cut counted_by _ _ _ _ _ c.without_end.result.now _ c.read_count.result empty
    c.in_ok-read_line.ensures.line c.in_ok-read_line.ensures.all
    (λ front is. c.without_end.ensures front (c.as_slice.ensures.value ∙ is))
    c.counted-count.ensures c.read_count.ensures.part
