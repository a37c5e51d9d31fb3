-- With a wall the range is off the map where a corner is.
use Rattle.std.proofs.Common.{inr}
use Rattle.footprint.proofs.Ranges.{IsOff-range}
use Rattle.footprint.proofs.hit.hits.Goals as goal

pub returns-then-leave-clause-hits : goal.returns-then-leave-clause-hits
returns-then-leave-clause-hits g c =
    let bounds = c.bounds_of-bounds in
    let leave = rw (c.width.ensures.width, c.height.ensures.height) at c.leave.ensures in
    let off = IsOff-range (g.R.Rows.cells c.args.rows.now) c.args.ring.now bounds.result.left
    bounds.result.right bounds.result.top bounds.result.bottom bounds.ensures.columns
    bounds.ensures.rows in
    rw c.in-Wall.is (λ is. inr (off (leave.0 is)), λ _. c.if-leave.true)
