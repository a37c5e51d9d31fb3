-- Where the flush fails the whole line is written, and that is a prefix of itself.
use Rattle.std.proofs.Common.{ap, sym, ◌∙◌, ◌≡◌, ◌++◌}
use Rattle.std.proofs.lemmas.Result.{err_from_is_err_and}
use Rattle.metric.specs.Refusal.{refusal_text}
use Rattle.metric.proofs.Appending.{AppendsFront-whole}
use Rattle.streams.specs.Refusals.{name_text}
use Rattle.streams.proofs.output.write_refusal.Goals as goal

pub returns-in_err-flush-clause-front : goal.returns-in_err-flush-clause-front
returns-in_err-flush-clause-front g c =
    let p = err_from_is_err_and c.from_residual-in_err-flush.result
    c.from_residual-in_err-flush.ensures.1 in
    let text : refusal_text c.args.refusal ≡ c.as_bytes.result.now
    ++ name_text c.name_behind.result =
    c.name_behind.ensures
    ∙ ap (λ t. t ++ name_text c.name_behind.result)
    (sym (c.as_bytes.ensures.value ∙ c.title.ensures)) in
    rw (p.1, c.flush.ensures.held, text)
    (AppendsFront-whole _ _ _ c.in_ok-write_words.ensures.whole)
