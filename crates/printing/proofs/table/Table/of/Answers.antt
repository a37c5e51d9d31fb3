-- The distances of all rows are those of the map's cells, and the obstacles are kept themselves.
use Rattle.std.proofs.Common.{arith, refl}
use Rattle.field.specs.Obstacles.{nears_told}
use Rattle.printing.proofs.KeptLemmas.{IsTableOf-numbers}
use Rattle.printing.proofs.table.Table.of.Goals as goal

pub returns-clause-table : goal.returns-clause-table
returns-clause-table g c =
    rw (c.width-width.ensures.width, c.height-height.ensures.height)
    (IsTableOf-numbers g.M.Metric.distance c.args.bitmap.now c.args.edge
    c.in_ok-distances.distances c.width-width.ensures.bitmap.width_is.some c.requires.below
    (λ x y column row. c.in_ok-distances.ensures.rows x y column (omega arith) (omega (arith, row))))

pub returns-then-nearest-clause-table : goal.returns-then-nearest-clause-table
returns-then-nearest-clause-table g c = record {
  width_is = c.width-width.ensures.width;
  height_is = c.height-height.ensures.height;
  nears = nears_told g.M.Metric.distance c.in_ok-obstacles.obstacles;
  rows = rw c.height-height.ensures.height at c.in_ok-obstacles.ensures.rows;
  told = refl;
}
