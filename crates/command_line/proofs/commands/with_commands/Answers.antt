-- One more command is given to the program.
use Rattle.std.proofs.Common.{◌≡◌, ◌∙◌, ℕ, ◌+◌, ◌<◌, List, length, get_or, drop, drop-cons, add-one}
use Rattle.std.proofs.Common.{ap, refl, sym}
use Rattle.clap.specs.Words.{App, app_of, with_subcommand}
use Rattle.command_line.specs.Tables.{app_of_entry, with_entries}
use Rattle.command_line.specs.declared.tables.Entry.{Entry}
use Rattle.command_line.proofs.commands.with_commands.Goals as goal

-- the commands from a place on give what the one there and then those after it give
from_place : (app : App) (entries : List Entry) (i : ℕ) (other : Entry) → i < length entries
    → with_entries app (drop i entries)
    ≡ with_entries (with_subcommand app (app_of_entry (get_or entries i other)).top)
    (drop (i + 1) entries)
from_place app entries i other within = rw (add-one, drop-cons entries i other) refl

pub loop-entry-preserved : goal.loop-entry-preserved
loop-entry-preserved c =
    ap (λ (app : App). with_entries app (drop (c.loop-entry.entry-index + 1) c.args.entries.now))
    (c.in_ok-program.ensures.shape c.in_ok-command_of.ensures.local
    ∙ ap (λ (app : App). with_subcommand (app_of c.loop-entry.program) app.top)
    c.in_ok-command_of.ensures.app)
    ∙ (sym (from_place _ c.args.entries.now c.loop-entry.entry-index _ c.loop-entry-test.true)
    ∙ c.loop-entry.invariant)
