-- The first cell that has an obstacle below the distance.
use Rattle.bits.specs.Edges.{IsBlocked}
use Rattle.clearance.specs.Paths.{cells_of_path}
use Rattle.clearance.proofs.Firsts.{IsClearOf-first}
use Rattle.clearance.proofs.Refusals.{IsPath-from, IsWalk-path}
use Rattle.clearance.proofs.Walks.{cells_of_path-start}
use Rattle.clearance.proofs.queries.clear_of.Goals as goal

pub first_along-requires : goal.first_along-requires
first_along-requires g c =
    let path = c.in_ok-start.ensures in
    record {
      walk = rw path.start_is (IsWalk-path (g.R.Rows.cells c.args.rows.now) c.args.points.now
          path.accepted);
      bitmap = path.bitmap;
    }

pub returns-clause-clear : goal.returns-clause-clear
returns-clause-clear g c =
    let path = c.in_ok-start.ensures in
    let some = IsPath-from (g.R.Rows.cells c.args.rows.now) c.args.points.now path.accepted in
    IsClearOf-first g.M.Metric.distance (IsBlocked (g.R.Rows.cells c.args.rows.now) c.args.edge)
    (cells_of_path c.args.points.now) c.args.d c.first_along.result
    (rw (cells_of_path-start c.args.points.now some.some) (rw (c.from.ensures, path.start_is) at
    c.first_along.ensures.found))
