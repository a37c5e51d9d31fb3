-- What `clap` is told of a table of commands and flags.
use Rattle.std.specs.Prelude.{ℕ, List, [], ◌∷◌, Some}
use Rattle.clap.specs.Words.{App, Rule, new_app, new_rule, with_rule, with_subcommand}
use Rattle.clap.specs.declared.builder.ArgAction.TheVariants.{SetTrue}
use Rattle.command_line.specs.ServeLine.{default_rule, required_rule}
use Rattle.command_line.specs.declared.tables.Entry.{Entry}
use Rattle.command_line.specs.declared.tables.Flag.{Flag}
use Rattle.command_line.specs.declared.tables.Takes.{Takes}
use Rattle.command_line.specs.declared.tables.Takes.TheVariants.{Default, Nothing, Required, Value}

-- the rule of a flag of this name that takes this
abbrev pub rule_taking : List ℕ → Takes → Rule
rule_taking name Nothing = record (new_rule name) { long = Some name; action = Some SetTrue }
rule_taking name (Value kind) = record (new_rule name) { long = Some name; value_names = 1 }
rule_taking name (Required kind) = required_rule name
rule_taking name (Default kind value) = default_rule name value.now

-- the rule of a flag
abbrev pub rule_of_flag : Flag → Rule
rule_of_flag flag = rule_taking flag.name.now flag.takes

-- a command with these flags, too
abbrev pub with_flag_rules : App → List Flag → App
with_flag_rules app [] = app
with_flag_rules app (flag ∷ flags) = with_flag_rules (with_rule app (rule_of_flag flag)) flags

-- a command of a table
abbrev pub app_of_entry : Entry → App
app_of_entry entry = with_flag_rules (new_app entry.name.now) entry.flags.now

-- a program with these commands, too
abbrev pub with_entries : App → List Entry → App
with_entries app [] = app
with_entries app (entry ∷ entries) =
    with_entries (with_subcommand app (app_of_entry entry).top) entries
