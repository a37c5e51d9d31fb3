-- A row that is marked in the line of the rows after it makes the line from that row on.
use Rattle.std.proofs.Common.{◌≡◌, arith}
use Rattle.column.proofs.LineLemmas.{IsLineFrom-marked}
use Rattle.column.proofs.lines.carry_up.Goals as goal

pub rows-preserved : goal.rows-preserved
rows-preserved c = record {
  at_least = omega arith;
  line = IsLineFrom-marked c.args.edge c.args.bitmap.now c.rows.y c.rows.line c.mark_line.new.line
      c.requires.bitmap (omega arith) (omega arith) c.mark_line.ensures.len
      c.mark_line.ensures.marked c.rows.invariant.line;
}

pub returns : goal.returns
returns c =
    let at_least = c.rows.invariant.at_least in
    let same : c.rows.y ≡ c.args.from = omega arith in
    rw same at c.rows.invariant.line
