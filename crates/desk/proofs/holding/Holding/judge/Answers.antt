-- A command is judged for free blocks, by its kind.
use Rattle.desk.proofs.Names.{err_from_is_err_and}
use Rattle.desk.proofs.HoldDraw.{drawing_why}
use Rattle.desk.proofs.holding.Holding.judge.Goals as goal

pub returns-in_err-stroke-in-Paint-clause-refused :
    goal.returns-in_err-stroke-in-Paint-clause-refused
returns-in_err-stroke-in-Paint-clause-refused c =
    let p = err_from_is_err_and c.from_residual.result c.from_residual.ensures.1 in
    rw (p.1, p.2) (drawing_why c.args.self.now c.args.command.now _ _ tt (cc)
    c.in-Paint.is c.in_err-stroke-in-Paint.ensures.refused)

pub returns-in_err-stroke-in-Stamp-clause-refused :
    goal.returns-in_err-stroke-in-Stamp-clause-refused
returns-in_err-stroke-in-Stamp-clause-refused c =
    let p = err_from_is_err_and c.from_residual-in_err-stroke-in-Stamp.result
    c.from_residual-in_err-stroke-in-Stamp.ensures.1 in
    rw (p.1, p.2) (drawing_why c.args.self.now c.args.command.now _ _ tt (cc)
    c.in-Stamp.is c.in_err-stroke-in-Stamp.ensures.refused)
