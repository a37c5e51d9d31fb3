-- All of each answer is kept.
use Rattle.field.proofs.BandLemmas.{AreNears-answers, on_ok}
use Rattle.field.proofs.bands.work_band.Goals as goal

pub returns : goal.returns
returns g c =
    let batch = c.args.shared.now.batch.now in
    let answers = rw (c.band_rows-y0.ensures.from, c.band_rows-y0.ensures.to) at c.fill.ensures.rows
    in
    on_ok c.fill.result (AreNears-answers g.M.Metric.distance batch.bitmap.now batch.edge _ _
    c.fill.new.answers) answers
