-- One more cell is answered.
use Rattle.libclearmap.proofs.Names.{◌∙◌, arith, length-set, get_or-set_other}
use Rattle.metric.specs.Kind.{distance_of}
use Rattle.bits.specs.Edges.{IsBlocked}
use Rattle.libclearmap.specs.Many.{SaysClear}
use Rattle.libclearmap.proofs.ManyLemmas.{each_more}
use Rattle.libclearmap.proofs.many.write_clear.Goals as goal

pub cells-preserved : goal.cells-preserved
cells-preserved g c = record {
  rows = c.byte_by.ensures.rows ∙ c.cells.invariant.rows;
  long = length-set _ _ _ ∙ c.cells.invariant.long;
  each = each_more (λ cell byte. SaysClear (distance_of c.kind_of-kind.result)
      (IsBlocked (g.R.Rows.cells c.args.rows.now) c.edge_of-edge.result) cell c.args.d byte)
      c.args.cells.now c.cells.clear 0 c.byte_by.result c.cells.i
      (omega (arith, c.cells.auto.clear, c.requires.room)) c.cells.invariant.each
      (rw c.cells.invariant.rows at c.byte_by.ensures.clear);
  rest = λ k beyond. grind (arith, get_or-set_other, c.cells.invariant.rest k beyond);
}

pub returns-clause-clear : goal.returns-clause-clear
returns-clause-clear g c = record {
  each = λ k within. rw (c.kind_of-kind.ensures, c.edge_of-edge.ensures) at
      (c.cells.invariant.each k (omega arith));
}
