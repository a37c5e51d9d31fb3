-- The flags that are left give the command what all do.
use Rattle.std.proofs.Common.{◌≡◌, drop, false}
use Rattle.clap.specs.Words.{app_of}
use Rattle.clap.specs.declared.builder.command.Command.TheViews.{out-Command}
use Rattle.command_line.specs.Tables.{app_of_entry, with_flag_rules}
use Rattle.command_line.proofs.commands.command_of.Given as goal

-- the flags that are left give the command what all do, and none of them is global
abbrev pub invariant-loop-flag : goal.invariant-loop-flag
invariant-loop-flag l = record {
  app : with_flag_rules (app_of l.command) (drop l.flag-index l.fn.entry.flags.now)
      ≡ app_of_entry l.fn.entry;
  local : (out-Command l.command).has_globals ≡ false;
}
