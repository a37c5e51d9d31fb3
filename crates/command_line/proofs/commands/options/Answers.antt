-- What the words ask is read from the matches of `clap`, and words that `clap` takes are refused
-- only when out of memory.
use Rattle.std.proofs.Common.{ap, refl, ◌∙◌}
use Rattle.std.proofs.lemmas.Bool.{false≢true}
use Rattle.std.proofs.lemmas.Result.{err_from_is_err_and}
use Rattle.clap.specs.Words.{takes, found_of, rows_of}
use Rattle.command_line.specs.CommandLine.{program_app}
use Rattle.command_line.proofs.CommandLines.{takes_dist, takes_steps, named_dist, named_steps}
use Rattle.command_line.proofs.CommandLines.{one_name, dist_defaults, default_options-read}
use Rattle.command_line.proofs.CommandLines.{defaults_are_known, flags_are_known, command_is_named}
use Rattle.command_line.proofs.commands.options.Goals as goal

pub returns-in_err-matches-clause-taken : goal.returns-in_err-matches-clause-taken
returns-in_err-matches-clause-taken c = λ name words.
    let p = err_from_is_err_and c.from_residual.result c.from_residual.ensures.1 in
    rw (p.1)
    (p.2 ∙ c.in_err-matches.ensures.passes (ap (takes program_app) words ∙ takes_dist name))

pub returns-in_err-matches-clause-steps_taken : goal.returns-in_err-matches-clause-steps_taken
returns-in_err-matches-clause-steps_taken c = λ name words.
    let p = err_from_is_err_and c.from_residual.result c.from_residual.ensures.1 in
    rw (p.1)
    (p.2 ∙ c.in_err-matches.ensures.passes (ap (takes program_app) words ∙ takes_steps name))

pub returns-in_err-dist_options-clause-taken : goal.returns-in_err-dist_options-clause-taken
returns-in_err-dist_options-clause-taken c = λ name words.
    let rows = rows_of (found_of c.in-Some.flags.now) in
    absurd (defaults_are_known rows (dist_defaults name _ c.in_ok-matches.matches rows words
    c.in_ok-matches.ensures.found c.in-Some.ensures.rows) c.in_err-dist_options.ensures.refused)

pub returns-in_err-dist_options-clause-steps_taken :
    goal.returns-in_err-dist_options-clause-steps_taken
returns-in_err-dist_options-clause-steps_taken c = λ name words.
    absurd (one_name _ (c.in-Some.ensures.found.0 refl)
    (named_steps name _ c.in_ok-matches.matches words c.in_ok-matches.ensures.found))

pub returns-in-Some-clause-taken : goal.returns-in-Some-clause-taken
returns-in-Some-clause-taken c = λ name words.
    let rows = rows_of (found_of c.in-Some.flags.now) in
    default_options-read rows c.in_ok-dist_options.field-0
    c.in_ok-dist_options.ensures.options (dist_defaults name _ c.in_ok-matches.matches rows words
    c.in_ok-matches.ensures.found c.in-Some.ensures.rows)

pub returns-in-Some-clause-steps_taken : goal.returns-in-Some-clause-steps_taken
returns-in-Some-clause-steps_taken c = λ name words.
    absurd (one_name _ (c.in-Some.ensures.found.0 refl)
    (named_steps name _ c.in_ok-matches.matches words c.in_ok-matches.ensures.found))

pub returns-then-is_some-clause-taken : goal.returns-then-is_some-clause-taken
returns-then-is_some-clause-taken c =
    λ name words. absurd
    (false≢true (c.in_default.ensures.found.1
    (named_dist name _ c.in_ok-matches.matches words c.in_ok-matches.ensures.found)))

pub returns-clause-taken : goal.returns-clause-taken
returns-clause-taken c =
    λ name words. absurd
    (false≢true (c.in_default.ensures.found.1
    (named_dist name _ c.in_ok-matches.matches words c.in_ok-matches.ensures.found)))

pub returns-clause-steps_taken : goal.returns-clause-steps_taken
returns-clause-steps_taken c = λ name words.
    absurd (false≢true (c.if-is_some.ensures
    ∙ c.subcommand_matches-2.ensures.found.1
    (named_steps name _ c.in_ok-matches.matches words c.in_ok-matches.ensures.found)))

pub returns-in_err-matches-clause-refused : goal.returns-in_err-matches-clause-refused
returns-in_err-matches-clause-refused c = λ taken.
    let p = err_from_is_err_and c.from_residual.result c.from_residual.ensures.1 in
    rw (p.1) (p.2 ∙ c.in_err-matches.ensures.passes taken.0)

pub returns-in_err-dist_options-clause-refused : goal.returns-in_err-dist_options-clause-refused
returns-in_err-dist_options-clause-refused c = λ taken.
    absurd (flags_are_known _ _ c.in_ok-matches.matches taken c.in_ok-matches.ensures.found
    (c.in-Some.ensures.found.0 refl) c.in-Some.ensures.rows c.in_err-dist_options.ensures.refused)

pub returns-clause-refused : goal.returns-clause-refused
returns-clause-refused c = λ taken.
    command_is_named _ c.in_ok-matches.matches _ taken c.in_ok-matches.ensures.found
    (λ dist. false≢true (c.in_default.ensures.found.1 dist))
    (λ steps. false≢true (c.if-is_some.ensures ∙ c.subcommand_matches-2.ensures.found.1 steps))
    c.serve_or_ask.ensures.refused
