-- The path has this one cell.
use Rattle.bits.specs.Edges.{IsBlocked}
use Rattle.metric.specs.Kind.{distance_of}
use Rattle.libclearmap.proofs.ManyLemmas.{one_says}
use Rattle.libclearmap.proofs.many.byte_by.Goals as goal

pub returns-in-Ok-clause-clear : goal.returns-in-Ok-clause-clear
returns-in-Ok-clause-clear g c =
    one_says (distance_of c.args.kind) (IsBlocked (g.R.Rows.cells c.args.rows.now) c.args.edge)
    c.args.cell c.args.d c.from.result c.in-Ok.found c.is_none.result
    c.in-Ok.ensures.clear c.is_none.ensures c.from.ensures
