-- Flags that say no options of `serve` are none that the program takes.
use Rattle.std.proofs.Common.{refl}
use Rattle.std.proofs.lemmas.Result.{err_from_is_err_and}
use Rattle.clap.specs.Words.{found_of, rows_of}
use Rattle.command_line.proofs.CommandLines.{no_match_serve}
use Rattle.command_line.proofs.serve_words.serve_or_ask.Goals as goal

pub returns-in_err-serve_options-clause-refused : goal.returns-in_err-serve_options-clause-refused
returns-in_err-serve_options-clause-refused c =
    let p = err_from_is_err_and c.from_residual.result c.from_residual.ensures.1 in
    rw (p.1) (no_match_serve _ (rows_of (found_of c.in-Some.flags.now))
    (c.in-Some.ensures.found.0 refl) c.in-Some.ensures.rows
    c.in_err-serve_options.ensures.refused)
