-- What is written are the costs of the least distances.
use Rattle.metric.specs.declared.kind.MetricKind.TheVariants.{Chess, City, Euclid2}
use Rattle.field.proofs.BandLemmas.{on_ok}
use Rattle.libclearmap.proofs.CostLemmas.{costs_of_priced}
use Rattle.libclearmap.proofs.costs.fill_by.Goals as goal

pub returns-in-Euclid2-clause-rows : goal.returns-in-Euclid2-clause-rows
returns-in-Euclid2-clause-rows c =
    let batch = c.args.batch.now in
    let told = c.fill.ensures in
    rw c.in-Euclid2.is (on_ok c.fill.result (costs_of_priced Euclid2 c.args.table.now
    batch.bitmap.now batch.edge batch.y0 batch.y1 c.fill.new.costs told.bitmap batch.within)
    told.rows)

pub returns-in-City-clause-rows : goal.returns-in-City-clause-rows
returns-in-City-clause-rows c =
    let batch = c.args.batch.now in
    let told = c.fill-in-City.ensures in
    rw c.in-City.is (on_ok c.fill-in-City.result (costs_of_priced City c.args.table.now
    batch.bitmap.now batch.edge batch.y0 batch.y1 c.fill-in-City.new.costs told.bitmap batch.within)
    told.rows)

pub returns-in-Chess-clause-rows : goal.returns-in-Chess-clause-rows
returns-in-Chess-clause-rows c =
    let batch = c.args.batch.now in
    let told = c.fill-in-Chess.ensures in
    rw c.in-Chess.is (on_ok c.fill-in-Chess.result (costs_of_priced Chess c.args.table.now
    batch.bitmap.now batch.edge batch.y0 batch.y1 c.fill-in-Chess.new.costs told.bitmap batch.within)
    told.rows)
