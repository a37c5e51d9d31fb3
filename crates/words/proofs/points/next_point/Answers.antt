-- The first two numbers are the first point.
use Rattle.words.specs.Words.{words_left}
use Rattle.words.proofs.Fronts.{point-cell}
use Rattle.words.proofs.points.next_point.Goals as goal

pub returns-clause-points : goal.returns-clause-points
returns-clause-points c =
    point-cell (words_left c.args.rest) (words_left c.in_ok-x.rest) (words_left c.in_ok-y.rest)
    c.in_ok-x.x c.in_ok-y.y c.coordinate-x.result c.coordinate-y.result
    c.coordinate-x.ensures c.coordinate-y.ensures c.in_ok-x.ensures.first
    c.in_ok-y.ensures.first
