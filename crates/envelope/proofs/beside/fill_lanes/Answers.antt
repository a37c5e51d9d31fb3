-- One more cell is filled with what was found.
use Rattle.std.proofs.Common.{◌≡◌, ◌+◌, ◌<◌, length, Some, ◌∙◌, arith, rules}
use Rattle.metric.specs.Edge.{shift}
use Rattle.envelope.specs.Columns.{IsNearColumn, IsSaid}
use Rattle.envelope.proofs.Filling.{set_more}
use Rattle.envelope.proofs.Nears.{said_kept}
use Rattle.envelope.proofs.beside.fill_lanes.Goals as goal

pub cells-preserved : goal.cells-preserved
cells-preserved g c =
    let p = c.args.start + c.cells.lane in
    let edge = g.B.Border.EDGE in
    let distance = g.M.Metric.distance in
    let says = g.A.CellValue.says in
    let first : c.from-first.result ≡ shift edge = c.from-first.ensures
    ∙ (rw c.EDGE-edge.ensures at c.shift.ensures) in
    let where_is : p + c.from-first.result ≡ c.args.start + shift edge + c.cells.lane =
    omega (arith, first) in
    let place : c.args.start + shift edge + c.cells.lane ≡ p + shift edge = omega arith in
    let some = c.requires.inside (omega (arith, c.cells-test.true)) in
    let inside : p < length c.cells.answers =
    omega (arith, some, c.cells.auto.answers, c.cells-test.true) in
    let found = c.requires.told c.cells.lane (omega (arith, c.cells-test.true, c.requires.count))
    (omega (arith, inside, c.cells.auto.answers, c.requires.width)) in
    let near : IsNearColumn distance c.args.entries.now c.args.y edge (p + shift edge)
    (Some c.near_at.result) = rw (
      ← place,
      rw (where_is, c.EDGE-edge.ensures, c.from.ensures, c.from-in-cells.ensures) at
          c.near_at.ensures.near,
    ) found.near in
    record {
      filled = λ x from below.
          set_more (λ x answer. IsSaid says distance c.args.entries.now c.args.y edge x answer)
          c.args.start p c.cells.answers c.with.result g.A.CellValue.unset
          inside c.cells.invariant.filled
          (said_kept says distance c.args.entries.now edge c.args.y p c.near_at.result c.with.result
          near c.requires.row c.with.ensures) x from (omega (arith, below));
      others = search rules;
    }
