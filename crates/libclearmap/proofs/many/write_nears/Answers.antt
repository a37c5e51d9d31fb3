-- One more cell is answered.
use Rattle.libclearmap.proofs.Names.{◌∙◌, arith, length-set, get_or-set_other}
use Rattle.metric.specs.Kind.{distance_of}
use Rattle.bits.specs.Edges.{IsBlocked}
use Rattle.libclearmap.specs.Kept.{kept_nothing}
use Rattle.libclearmap.specs.Many.{MeansNear}
use Rattle.libclearmap.proofs.ManyLemmas.{each_more}
use Rattle.libclearmap.proofs.many.write_nears.Goals as goal

pub cells-preserved : goal.cells-preserved
cells-preserved g c = record {
  rows = c.near_by.ensures.rows ∙ c.cells.invariant.rows;
  long = length-set _ _ _ ∙ c.cells.invariant.long;
  each = each_more (MeansNear (distance_of c.kind_of-kind.result)
      (IsBlocked (g.R.Rows.cells c.args.rows.now) c.edge_of-edge.result)) c.args.cells.now
      c.cells.nears kept_nothing c.near_by.result c.cells.i
      (omega (arith, c.cells.auto.nears, c.requires.room)) c.cells.invariant.each
      (rw c.cells.invariant.rows at c.near_by.ensures.near);
  rest = λ k beyond. grind (arith, get_or-set_other, c.cells.invariant.rest k beyond);
}
