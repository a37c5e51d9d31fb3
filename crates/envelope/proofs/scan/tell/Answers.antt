-- One more cell is filled with what its word tells.
use Rattle.std.proofs.Common.{◌≡◌, ◌+◌, ◌%◌, ◌<◌, length, slice_index, Some, ◌∙◌, arith}
use Rattle.metric.specs.Edge.{shift}
use Rattle.envelope.specs.Columns.{IsNearColumn, IsSaid}
use Rattle.envelope.proofs.Filling.{set_more}
use Rattle.envelope.proofs.Nears.{near_of_word, said_kept}
use Rattle.envelope.proofs.scan.tell.Goals as goal

pub near_at-requires-clause-inside : goal.near_at-requires-clause-inside
near_at-requires-clause-inside g c =
    let before : c.from-before.result ≡ shift g.B.Border.EDGE = c.from-before.ensures
    ∙ (rw c.EDGE-edge.ensures at c.shift.ensures) in
    (c.requires.told (c.cells.x + c.from-before.result)
    (omega (arith, before, c.cells-test.true, c.requires.width))).best.among.left

pub near_at-requires-clause-row : goal.near_at-requires-clause-row
near_at-requires-clause-row g c =
    let before : c.from-before.result ≡ shift g.B.Border.EDGE = c.from-before.ensures
    ∙ (rw c.EDGE-edge.ensures at c.shift.ensures) in
    let among = (c.requires.told (c.cells.x + c.from-before.result)
    (omega (arith, before, c.cells-test.true, c.requires.width))).best.among in
    c.requires.entries.each (slice_index c.args.words.now (c.cells.x + c.from-before.result) % 8192)
    among.left among.some

pub cells-preserved : goal.cells-preserved
cells-preserved g c =
    let p = c.cells.x in
    let k = shift g.B.Border.EDGE in
    let before : c.from-before.result ≡ k = c.from-before.ensures
    ∙ (rw c.EDGE-edge.ensures at c.shift.ensures) in
    let inside : p < length c.cells.answers =
    omega (arith, c.cells-test.true, c.cells.auto.answers) in
    let told = c.requires.told (p + c.from-before.result)
    (omega (arith, before, c.cells-test.true, c.requires.width)) in
    let near : IsNearColumn g.M.Metric.distance c.args.entries.now c.args._y g.B.Border.EDGE
    (p + c.from-before.result) (Some c.near_at.result) =
    near_of_word g.M.Metric.distance c.args.entries.now g.B.Border.EDGE c.args._y
    (p + c.from-before.result) (slice_index c.args.words.now (p + c.from-before.result))
    c.near_at.result told (rw c.EDGE-edge.ensures at c.near_at.ensures.near) in
    record {
      filled = λ x below.
          set_more (λ x answer. IsSaid g.A.CellValue.says g.M.Metric.distance c.args.entries.now
          c.args._y g.B.Border.EDGE x answer) 0 p c.cells.answers c.with.result
          g.A.CellValue.unset inside (λ x low. c.cells.invariant.filled x)
          (said_kept g.A.CellValue.says g.M.Metric.distance c.args.entries.now g.B.Border.EDGE
          c.args._y p c.near_at.result c.with.result (rw before at near) c.requires.row
          c.with.ensures) x (omega arith) below;
    }
