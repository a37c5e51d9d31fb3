-- The rows so far have their costs.
use Rattle.libclearmap.proofs.Names.{ℕ, ◌+◌, ◌-◌, ◌*◌, ◌<◌, ◌≤◌, get_or}
use Rattle.bits.specs.Edges.{IsBlocked}
use Rattle.libclearmap.specs.Costs.{IsNextRowOf, IsPriced}
use Rattle.libclearmap.proofs.costs.fill_rows.Given as goal

abbrev pub invariant-rows : goal.invariant-rows
invariant-rows g l = record {
  filled : (x b : ℕ) → x < l.batch.bitmap.now.width → l.batch.y0 ≤ b → b < l.y
      → IsPriced l.table g.M.Metric.distance (IsBlocked l.batch.bitmap.now l.batch.edge) x b
      (get_or l.costs ((b - l.batch.y0) * l.batch.bitmap.now.width + x) 0);
  ready : IsNextRowOf l.batch l.rows l.y;
}
