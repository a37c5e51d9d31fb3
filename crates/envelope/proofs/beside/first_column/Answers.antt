-- The nearest column to the cell before bounds the columns of those after it.
use Rattle.std.proofs.Common.{◌+◌, ◌-◌, arith}
use Rattle.metric.specs.declared.edge.Edge.TheVariants.{Open}
use Rattle.envelope.proofs.BesideLemmas.{are_told}
use Rattle.envelope.proofs.PieceLemmas.{told_left}
use Rattle.envelope.proofs.beside.first_column.Goals as goal

pub returns-in-Some : goal.returns-in-Some
returns-in-Some g c =
    let at = c.args.start - 8 in
    told_left g.M.Metric.distance c.args.entries.now c.args.y at c.args.start c.column_of.result
    c.in-Some.high.best c.in-Some.high.away (omega arith) c.requires.start
    (let is = c.column_of.ensures in omega (arith, is))
    (are_told g.M.Metric.distance g.M.Metric.joined g.M.Metric.part_of c.args.entries.now
    c.args.parts.now Open c.args.y (c.args.start - 16 + 128 + 8) at c.in-Some.high.best
    c.in-Some.high.away
    (g.met.M.Metric.small c.requires.laned) g.met.M.Metric.grows g.met.M.Metric.stays_nearer
    c.requires.entries c.requires.parts (omega arith) c.in-Some.ensures.high)
