-- The upper bands and the lower ones are all bands.
use Rattle.std.proofs.Common.{◌≡◌, ◌+◌, ◌-◌, ◌*◌, ◌/◌, length, arith, rules}
use Rattle.std.proofs.lemmas.Grind.{common_steps}
use Rattle.metric.specs.Workers.{row_behind}
use Rattle.field.proofs.BandLemmas.{AreNears-join, on_ok_both, room_above, room_below}
use Rattle.field.proofs.BandLemmas.{row_behind-grows}
use Rattle.field.proofs.bands.+bands.Goals as goal

pub work_bands-split_at_mut-upper-requires : goal.work_bands-split_at_mut-upper-requires
work_bands-split_at_mut-upper-requires g t c =
    let shared = c.args.shared.now in let batch = shared.batch.now in
    let row = row_behind batch.y0 batch.y1 shared.workers.count in
    let above = c.args.above in
    let middle = above + (c.args.below - above) / 2 in
    let lower = row_behind-grows batch.y0 batch.y1 shared.workers.count middle c.args.below
    shared.workers.few.some (omega (arith, c.requires.bands.some)) in
    let upper = row_behind-grows batch.y0 batch.y1 shared.workers.count above middle
    shared.workers.few.some (omega arith) in
    let cells : c.from.result * c.width.result ≡ (row middle - row above) * batch.bitmap.now.width =
    search rules in
    rw cells (room_above batch.bitmap.now (row above) (row middle)
    (row c.args.below) c.args.nears.now upper lower c.requires.room)

pub work_bands-work_beside-requires-clause-lower : goal.work_bands-work_beside-requires-clause-lower
work_bands-work_beside-requires-clause-lower g t c κs within =
    let shared = c.args.shared.now in let batch = shared.batch.now in
    let row = row_behind batch.y0 batch.y1 shared.workers.count in
    let above = c.args.above in
    let middle = above + (c.args.below - above) / 2 in
    let lower = row_behind-grows batch.y0 batch.y1 shared.workers.count middle c.args.below
    shared.workers.few.some (omega (arith, c.requires.bands.some)) in
    let upper = row_behind-grows batch.y0 batch.y1 shared.workers.count above middle
    shared.workers.few.some (omega arith) in
    let cells : c.from.result * c.width.result ≡ (row middle - row above) * batch.bitmap.now.width =
    search rules in
    let rest : length c.split_at_mut-upper.result.1.now + (row middle - row above)
    * batch.bitmap.now.width ≡ length c.args.nears.now =
    rw cells at c.split_at_mut-upper.ensures.back_len in
    room_below batch.bitmap.now (row above) (row middle)
    (row c.args.below) c.args.nears.now c.split_at_mut-upper.result.1.now upper lower
    c.requires.room rest

pub work_bands-returns : goal.work_bands-returns
work_bands-returns g t c =
    let shared = c.args.shared.now in let batch = shared.batch.now in
    let row = row_behind batch.y0 batch.y1 shared.workers.count in
    let above = c.args.above in
    let middle = above + (c.args.below - above) / 2 in
    let lower = row_behind-grows batch.y0 batch.y1 shared.workers.count middle c.args.below
    shared.workers.few.some (omega (arith, c.requires.bands.some)) in
    let upper = row_behind-grows batch.y0 batch.y1 shared.workers.count above middle
    shared.workers.few.some (omega arith) in
    on_ok_both c.work_beside.result
    (λ first second. AreNears-join g.M.Metric.distance batch.bitmap.now batch.edge (row above)
    (row middle) (row c.args.below) c.work_beside.new.upper c.work_beside.new.lower upper
    lower first second)
    c.work_beside.ensures.upper c.work_beside.ensures.lower

pub work_beside-returns-clause-upper : goal.work_beside-returns-clause-upper
work_beside-returns-clause-upper g t c = grind (arith, common_steps)

pub work_beside-returns-clause-lower : goal.work_beside-returns-clause-lower
work_beside-returns-clause-lower g t c = grind (arith, common_steps)
