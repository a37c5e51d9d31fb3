-- One more cell has its low half, and what its distance is kept as isn't over the joined number.
use Rattle.std.proofs.Common.{rules, arith}
use Rattle.field.proofs.HalfLemmas.{kept_more, map_is}
use Rattle.field.specs.Compact.{low_half}
use Rattle.field.proofs.halves.put_low.Goals as goal

pub cells-preserved : goal.cells-preserved
cells-preserved c = record {
  each = search rules;
  most = kept_more c.args.line.now c.cells.x c.cells.all c.cells.invariant.most;
}

pub returns-clause-low : goal.returns-clause-low
returns-clause-low c = map_is low_half c.args.line.now c.cells.low (omega (arith, c.cells.auto.low))
    (λ x inside. c.cells.invariant.each x (omega (arith, inside)))
