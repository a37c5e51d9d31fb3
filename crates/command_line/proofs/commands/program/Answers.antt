-- The program that is built has the four commands of the rules, one joined after another.
use Rattle.std.proofs.Common.{◌≡◌, ◌∙◌, ap, codes, rules, true}
use Rattle.std.proofs.lemmas.Result.{IfOk-weaker}
use Rattle.clap.specs.Words.{App, app_of, new_app, with_subcommand}
use Rattle.clap.specs.Simple.{on_top}
use Rattle.command_line.specs.CommandLine.{dist_app, steps_app}
use Rattle.command_line.specs.ServeLine.{ask_app, serve_app}
use Rattle.command_line.proofs.commands.program.Goals as goal

-- a program with the four commands, too
abbrev with_all : App → App
with_all app =
    with_subcommand
    (with_subcommand (with_subcommand (with_subcommand app dist_app.top) serve_app.top)
    ask_app.top) steps_app.top

pub returns : goal.returns
returns c =
    let start : app_of c.subcommand_required-program.result
    ≡ on_top (λ s. record s { has_version = true; subcommand_required = true })
    (new_app (codes "clearmap")) = search rules in
    IfOk-weaker c.with_commands.result _ _ (λ made is. is ∙ ap with_all start)
    c.with_commands.ensures
