-- The commands that are left give the program what all do.
use Rattle.std.proofs.Common.{◌≡◌, drop}
use Rattle.clap.specs.Words.{app_of}
use Rattle.command_line.specs.Tables.{with_entries}
use Rattle.command_line.proofs.commands.with_commands.Given as goal

-- the commands that are left give the program what all do
abbrev pub invariant-loop-entry : goal.invariant-loop-entry
invariant-loop-entry l =
    with_entries (app_of l.program) (drop l.entry-index l.entries)
    ≡ with_entries (app_of l.fn.program) l.entries
