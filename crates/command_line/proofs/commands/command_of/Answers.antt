-- One more flag is given to the command.
use Rattle.std.proofs.Common.{◌≡◌, ◌∙◌, ℕ, ◌+◌, ◌<◌, List, ◌||◌, length, get_or, drop, drop-cons}
use Rattle.std.proofs.Common.{add-one, ap, ap₂, refl, sym}
use Rattle.clap.specs.Words.{App, app_of, with_rule}
use Rattle.command_line.specs.Tables.{rule_of_flag, with_flag_rules}
use Rattle.command_line.specs.declared.tables.Flag.{Flag}
use Rattle.command_line.proofs.commands.command_of.Goals as goal

-- the flags from a place on give what the one there and then those after it give
from_place : (app : App) (flags : List Flag) (i : ℕ) (other : Flag) → i < length flags
    → with_flag_rules app (drop i flags)
    ≡ with_flag_rules (with_rule app (rule_of_flag (get_or flags i other))) (drop (i + 1) flags)
from_place app flags i other within = rw (add-one, drop-cons flags i other) refl

pub loop-flag-preserved : goal.loop-flag-preserved
loop-flag-preserved c =
    let added = c.in_ok-command.ensures in
    let flag = c.flag_of.ensures in
    let so_far = c.loop-flag.invariant in
    let place = c.loop-flag.flag-index in
    record {
      app = ap (λ (app : App). with_flag_rules app (drop (place + 1) c.args.entry.flags.now))
          (added.shape flag.local ∙ ap (with_rule (app_of c.loop-flag.command)) flag.rule)
          ∙ (sym (from_place _ c.args.entry.flags.now place _ c.loop-flag-test.true) ∙ so_far.app);
      local = added.globals ∙ ap₂ ◌||◌ so_far.local flag.local;
    }
