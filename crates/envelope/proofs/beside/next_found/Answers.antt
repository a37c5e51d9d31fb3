-- The nearest column to the cell that was found.
use Rattle.std.proofs.Common.{◌+◌, refl, arith}
use Rattle.metric.specs.declared.edge.Edge.TheVariants.{Open}
use Rattle.envelope.proofs.BesideLemmas.{are_told}
use Rattle.envelope.proofs.PieceLemmas.{told_right}
use Rattle.envelope.proofs.beside.next_found.Goals as goal

pub returns-in-Some-clause-bound : goal.returns-in-Some-clause-bound
returns-in-Some-clause-bound g c =
    told_right g.M.Metric.distance c.args.entries.now c.args.y c.groups.at
    (c.column_of.result + 1) c.in-Some.low.best c.in-Some.low.away c.groups-test.true
    (let is = c.column_of.ensures in omega (arith, is))
    (are_told g.M.Metric.distance g.M.Metric.joined g.M.Metric.part_of c.args.entries.now
    c.args.parts.now Open c.args.y (c.groups.at + 128) c.groups.at c.in-Some.low.best
    c.in-Some.low.away
    (g.met.M.Metric.small c.requires.laned) g.met.M.Metric.grows g.met.M.Metric.stays_nearer
    c.requires.entries c.requires.parts refl c.in-Some.ensures.low)
