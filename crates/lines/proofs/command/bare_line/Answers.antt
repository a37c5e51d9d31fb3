-- A line that takes no argument says nothing if an argument is left.
use Rattle.std.proofs.Common.{sym}
use Rattle.lines.specs.Said.{said_by}
use Rattle.lines.proofs.Alone.{alone-left}
use Rattle.lines.proofs.command.bare_line.Goals as goal

pub returns-then-is_some : goal.returns-then-is_some
returns-then-is_some c = alone-left (said_by c.args.line) c.args.rest (sym c.if-is_some.ensures)
