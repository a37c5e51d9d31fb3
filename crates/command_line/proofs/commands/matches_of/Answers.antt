-- Words that the program takes are refused only when out of memory, since the program that was
-- built is the one of the rules.
use Rattle.std.proofs.Common.{ap, subst, ◌∙◌}
use Rattle.std.proofs.lemmas.Result.{err_from_is_err_and}
use Rattle.clap.specs.Words.{HasMatchesOf, takes}
use Rattle.clap.specs.Simple.{App}
use Rattle.command_line.specs.CommandLine.{texts_of}
use Rattle.command_line.proofs.commands.matches_of.Goals as goal

pub returns-in_err-matches-clause-passes : goal.returns-in_err-matches-clause-passes
returns-in_err-matches-clause-passes c =
    let p = err_from_is_err_and c.from_residual-in_err-matches.result
    c.from_residual-in_err-matches.ensures.1 in
    rw (p.1) (λ taken. p.2 (c.in_err-matches.ensures.passes
    (ap (λ (app : App). takes app (texts_of c.args.words.now)) c.in_ok-program.ensures ∙ taken)))

pub returns-clause-found : goal.returns-clause-found
returns-clause-found c =
    subst (λ (app : App). HasMatchesOf app (texts_of c.args.words.now) c.in_ok-matches.matches)
    c.in_ok-program.ensures c.in_ok-matches.ensures.matches
