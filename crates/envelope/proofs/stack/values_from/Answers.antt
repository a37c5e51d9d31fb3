-- The nearest columns are the nearest obstacles, whatever the border is.
use Rattle.envelope.proofs.Nears.{AreRowValues-said}
use Rattle.envelope.proofs.stack.values_from.Goals as goal

pub returns-in-Open-clause-values : goal.returns-in-Open-clause-values
returns-in-Open-clause-values g c = λ cells y bitmap within y_is row.
    AreRowValues-said g.V.CellValue.says g.V.CellValue.unset g.M.Metric.distance cells c.args.edge y
    c.args.entries.now c.fill_row.new.answers g.met.M.Metric.grows bitmap within (rw y_is at row)
    (rw (y_is, ← c.in-Open.is) at c.fill_row.ensures.answers)

pub returns-in-Wall-clause-values : goal.returns-in-Wall-clause-values
returns-in-Wall-clause-values g c = λ cells y bitmap within y_is row.
    AreRowValues-said g.V.CellValue.says g.V.CellValue.unset g.M.Metric.distance cells c.args.edge y
    c.args.entries.now c.fill_row-in-Wall.new.answers g.met.M.Metric.grows bitmap within
    (rw y_is at row)
    (rw (y_is, ← c.in-Wall.is) at c.fill_row-in-Wall.ensures.answers)
