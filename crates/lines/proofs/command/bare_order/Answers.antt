-- A command that takes no argument isn't told where an argument is left.
use Rattle.std.proofs.Common.{sym}
use Rattle.lines.specs.Told.{told_by}
use Rattle.lines.proofs.Alone.{alone-left}
use Rattle.lines.proofs.command.bare_order.Goals as goal

pub returns-then-is_some : goal.returns-then-is_some
returns-then-is_some c = alone-left (told_by c.args.command) c.args.rest (sym c.if-is_some.ensures)
