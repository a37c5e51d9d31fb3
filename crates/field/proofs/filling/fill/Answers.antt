-- Values that say what answers tell are answers.
use Rattle.field.proofs.BandLemmas.{on_ok}
use Rattle.field.proofs.RowLemmas.{AreAnswers-values}
use Rattle.field.proofs.filling.fill.Goals as goal

pub returns-clause-rows : goal.returns-clause-rows
returns-clause-rows g c =
    let batch = c.args.batch.now in
    on_ok c.fill_values.result (AreAnswers-values g.A.CellAnswer.told g.A.CellAnswer.nothing
    g.M.Metric.distance batch.bitmap.now batch.edge batch.y0 batch.y1 c.fill_values.new.values)
    c.fill_values.ensures.rows
