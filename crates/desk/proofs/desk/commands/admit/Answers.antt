-- Out of memory is the refusal of a command that nothing else refuses.
use Rattle.std.proofs.Common.{rules}
use Rattle.desk.proofs.HoldDraw.{judged_none}
use Rattle.desk.proofs.desk.commands.admit.Goals as goal

pub returns-in_err-make_room-clause-refused : goal.returns-in_err-make_room-clause-refused
returns-in_err-make_room-clause-refused c =
    let none = judged_none _ _ _ c.in_ok-judged.ensures.judged in search rules
