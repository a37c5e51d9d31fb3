-- The places less than k columns away have been searched.
use Rattle.std.proofs.Common.{◌-◌, ◌+◌, ◌≤◌}
use Rattle.envelope.specs.Beside.{AreBestNear, AreSides}
use Rattle.envelope.proofs.search.search.Given as goal

abbrev pub invariant-columns : goal.invariant-columns
invariant-columns g l = record {
  some : 1 ≤ l.k;
  few : l.k ≤ 97;
  sides : AreSides l.k l.sides.left l.sides.right;
  low : AreBestNear g.M.Metric.distance g.M.Metric.joined l.parts l.at l.k l.low.best l.low.away;
  high : AreBestNear g.M.Metric.distance g.M.Metric.joined l.parts
      (l.at + 8) l.k l.high.best l.high.away;
}

abbrev pub decreases-columns : goal.decreases-columns
decreases-columns g l = 97 - l.k
