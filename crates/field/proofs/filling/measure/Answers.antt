-- Numbers that say how far the nearest obstacles are, are distances.
use Rattle.field.proofs.BandLemmas.{on_ok}
use Rattle.field.proofs.DistanceLemmas.{AreMeasuredRows-values}
use Rattle.field.proofs.filling.measure.Goals as goal

pub returns-clause-rows : goal.returns-clause-rows
returns-clause-rows g c =
    let batch = c.args.batch.now in
    on_ok c.fill_values.result (AreMeasuredRows-values g.M.Metric.distance batch.bitmap.now
    batch.edge batch.y0 batch.y1 c.fill_values.new.values c.fill_values.ensures.bitmap batch.within)
    c.fill_values.ensures.rows
