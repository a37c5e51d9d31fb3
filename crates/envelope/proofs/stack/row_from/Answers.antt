-- Values that say what answers tell are answers.
use Rattle.envelope.proofs.Nears.{AreRowAnswers-values}
use Rattle.envelope.proofs.stack.row_from.Goals as goal

pub returns-clause-answers : goal.returns-clause-answers
returns-clause-answers g c = λ cells row bitmap within row_is of_table.
    AreRowAnswers-values g.A.CellAnswer.told g.A.CellAnswer.nothing g.M.Metric.distance cells
    c.args.edge row cells.width c.values_from.new.values
    (c.values_from.ensures.values cells row bitmap within row_is of_table)
