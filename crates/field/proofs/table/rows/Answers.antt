-- What is kept is all that is known.
use Rattle.std.proofs.Common.{◌≡◌, None}
use Rattle.std.proofs.lemmas.Result.{IfOk-weaker}
use Rattle.field.specs.Bands.{AreValues}
use Rattle.field.specs.Rows.{AreNears}
use Rattle.field.proofs.BandLemmas.{AreNears-answers}
use Rattle.field.proofs.RowLemmas.{AreAnswers-values}
use Rattle.field.proofs.table.rows.Goals as goal

pub returns : goal.returns
returns g c =
    let batch = c.args.batch.now in
    let cells = batch.bitmap.now in
    let distance = g.M.Metric.distance in
    IfOk-weaker c.values.result
    (λ nears. AreValues (λ d x y told near. told ≡ near) None distance cells batch.edge batch.y0
    batch.y1 nears.items)
    (λ nears. AreNears distance cells batch.edge batch.y0 batch.y1 nears.items)
    (λ nears said. AreNears-answers distance cells batch.edge batch.y0 batch.y1 nears.items
    (AreAnswers-values (λ d x y near. near) None distance cells batch.edge batch.y0 batch.y1
    nears.items said))
    c.values.ensures
