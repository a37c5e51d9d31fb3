-- The word of the nearer one of two columns tells the cell.
use Rattle.std.proofs.Common.{◌≢◌, ◌<◌, length, slice_index, ◌∙◌, arith, get_or-set_other}
use Rattle.envelope.specs.Scans.{IsToldBy}
use Rattle.envelope.proofs.Filling.{set_more}
use Rattle.envelope.proofs.ScanLemmas.{left_enough, right_enough, told_nearer}
use Rattle.envelope.proofs.scan.choose.Goals as goal

pub nearer-requires-clause-left : goal.nearer-requires-clause-left
nearer-requires-clause-left g c =
    left_enough c.args.entries.now c.args._y c.cells.x
    (slice_index c.cells.left c.cells.x) c.requires.entries c.cells-test.true
    (rw (c.cells.invariant.others c.cells.x (omega arith))
    (c.requires.left c.cells.x c.cells-test.true))

pub nearer-requires-clause-right : goal.nearer-requires-clause-right
nearer-requires-clause-right g c =
    right_enough c.args.entries.now c.args._y c.cells.x
    (slice_index c.args.right.now c.cells.x) c.requires.entries c.cells-test.true
    (c.requires.right c.cells.x c.cells-test.true)

pub cells-preserved : goal.cells-preserved
cells-preserved g c =
    let left = slice_index c.cells.left c.cells.x in
    let room : c.cells.x < length c.cells.left =
    omega (arith, c.cells-test.true, c.cells.auto.left, c.requires.left_room) in
    record {
      told = λ x below.
          set_more (IsToldBy g.M.Metric.distance c.args.entries.now c.args._y) 0 c.cells.x
          c.cells.left c.nearer.result 0 room (λ x low. c.cells.invariant.told x)
          (told_nearer g.M.Metric.distance c.args.entries.now c.args._y c.requires.sum
          c.requires.entries c.cells.x c.cells-test.true c.requires.some left
          (slice_index c.args.right.now c.cells.x) c.nearer.result
          (rw (c.cells.invariant.others c.cells.x (omega arith))
          (c.requires.left c.cells.x c.cells-test.true))
          (c.requires.right c.cells.x c.cells-test.true)
          c.nearer.ensures.far c.nearer.ensures.left c.nearer.ensures.right) x (omega arith) below;
      others = λ x after.
          let other : x ≢ c.cells.x = λ same. absurd (omega (arith, after, same)) in
          get_or-set_other c.cells.left c.cells.x x c.nearer.result 0 other
          ∙ c.cells.invariant.others x (omega (arith, after));
    }
