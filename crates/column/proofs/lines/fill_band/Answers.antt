-- The line of each row of the band is written, and then that row is marked in it.
use Rattle.std.proofs.Common.{◌≡◌, ◌+◌, ◌-◌, ◌*◌, arith, refl}
use Rattle.metric.specs.Edge.{shift}
use Rattle.column.specs.Capped.{capped}
use Rattle.column.specs.Lines.{AreLinesBehind, IsLineFrom}
use Rattle.column.proofs.LineLemmas.{AreLinesBehind-next, IsLineFrom-marked}
use Rattle.column.proofs.lines.fill_band.Goals as goal

pub rows-preserved : goal.rows-preserved
rows-preserved c =
    let band = c.args.band.now in
    let cells = band.bitmap.now in
    let y = c.rows.y - 1 in
    let next : c.rows.y ≡ (c.rows.y - 1) + 1 = omega arith in
    let line : IsLineFrom (capped band.edge cells)
    ((c.rows.y - 1) + 1 + shift band.edge) c.rows.line = rw (← next) c.rows.invariant.line in
    let lines : AreLinesBehind cells band.edge band.y0 ((c.rows.y - 1) + 1) band.y1 c.rows.lines =
    rw (← next) c.rows.invariant.lines in
    let start : c.from.result * c.width-width.result ≡ (c.rows.y - 1 - band.y0) * cells.width =
    rw (c.from.ensures, c.width-width.ensures.width) refl in
    record {
      line = IsLineFrom-marked band.edge cells c.rows.y c.rows.line c.mark_line.new.line
          c.requires.bitmap (omega arith) (omega arith) c.mark_line.ensures.len
          c.mark_line.ensures.marked c.rows.invariant.line;
      lines = AreLinesBehind-next cells band.edge band.y0 y band.y1 c.rows.line c.rows.lines
          c.put_line.new.lines (omega arith) line
          (rw (start, line.as_many) at c.put_line.ensures.copied)
          (rw (start, line.as_many) at c.put_line.ensures.others) lines;
    }
