-- The current row comes after those so far.
use Rattle.std.proofs.Common.{◌≡◌, length, arith}
use Rattle.envelope.specs.Answer.{IsDistanceOf}
use Rattle.field.specs.Compact.{numbers_in}
use Rattle.field.proofs.RowLemmas.{AreValues-more}
use Rattle.field.proofs.compact_rows.push_rows.Goals as goal

pub rows-preserved : goal.rows-preserved
rows-preserved g c =
    let batch = c.args.batch.now in
    let cells = batch.bitmap.now in
    let line = c.fill_line.new.line in
    let width : length line ≡ cells.width = c.fill_line.ensures.line.as_many in
    let count = c.rows.invariant.count in
    let grown = c.in_ok-push_row.ensures.count in
    let numbers = rw width at c.in_ok-push_row.ensures.numbers in
    record {
      count = omega (arith, count, grown);
      kept = record {
        lines = rw width at c.in_ok-push_row.ensures.lines;
        measured =
            rw numbers
            (AreValues-more (λ distance x y number near. IsDistanceOf near number) 4294967295
            g.M.Metric.distance cells batch.edge batch.y0 c.rows.y
            (numbers_in cells.width c.rows.strip) line (omega arith) c.rows.invariant.kept.measured
            c.fill_line.ensures.line);
      };
      phases = c.fill_line.ensures.ready;
    }
