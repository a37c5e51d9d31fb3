-- A point is the only one if nothing is left of the line.
use Rattle.words.proofs.Pointing.{is_only}
use Rattle.words.proofs.points.read_point.Goals as goal

pub returns : goal.returns
returns c =
    rw c.then_some.ensures
    (is_only _ _ c.in_ok-cell.rest _ c.is_none.ensures c.in_ok-cell.ensures.points)
