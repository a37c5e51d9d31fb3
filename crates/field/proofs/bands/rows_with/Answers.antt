-- All bands are all rows.
use Rattle.std.proofs.Common.{◌≡◌, ◌-◌, ◌*◌, length, rules}
use Rattle.field.proofs.BandLemmas.{AreNears-all, HasRoom-all, written_over}
use Rattle.field.proofs.bands.rows_with.Goals as goal

pub work_bands-requires-clause-room : goal.work_bands-requires-clause-room
work_bands-requires-clause-room g c κs within =
    let batch = c.args.batch.now in
    let cells : length c.as_mut_slice.result.now ≡ (batch.y1 - batch.y0) * batch.bitmap.now.width =
    search rules in
    HasRoom-all batch.bitmap.now batch.y0 batch.y1 c.args.workers.count c.as_mut_slice.result.now
    c.args.workers.few.some batch.order batch.within cells

pub returns : goal.returns
returns g c =
    let batch = c.args.batch.now in
    let whole : length c.work_bands.new.nears ≡ c.in_ok-nears.nears.len = search rules in
    rw (written_over c.in_ok-nears.nears.len c.work_bands.new.nears c.in_ok-nears.nears.items whole)
    (AreNears-all g.M.Metric.distance batch.bitmap.now batch.edge batch.y0 batch.y1
    c.args.workers.count c.work_bands.new.nears c.args.workers.few.some batch.order
    c.in_ok-work_bands.ensures)
