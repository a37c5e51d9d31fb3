-- No line before the first has an obstacle near.
use Rattle.std.proofs.Common.{refl, arith}
use Rattle.clearance.proofs.LineWordLemmas.{IsFirstBefore-kept, IsRectLeft-lines, start_on_line}
use Rattle.clearance.proofs.first_line.first_in_bits.Goals as goal

pub invariant_of-found : goal.invariant_of-found
invariant_of-found g c =
    record {
      shape = IsRectLeft-lines c.args.lines c.args.end c.args.rect c.cell.result c.requires.lines
          (rw (c.cell.ensures.x, c.cell.ensures.y) (start_on_line c.args.lines));
    }

pub returns-clause-found : goal.returns-clause-found
returns-clause-found g c =
    let some = c.requires.lines.some in
    IsFirstBefore-kept g.M.Metric.distance (g.R.Rows.cells c.args.rows.now) c.args.lines c.args.end
    c.search.new.seeker.lines c.search.new.seeker.end
    (c.search.ensures.onward.kept (record {
      lines = c.args.lines;
      rect = c.args.rect;
      end = c.args.end;
      start = c.cell.result;
      limit = c.args.lines.limit;
      shape = IsRectLeft-lines c.args.lines c.args.end c.args.rect c.cell.result c.requires.lines
          (rw (c.cell.ensures.x, c.cell.ensures.y) (start_on_line c.args.lines));
    }) (record {
      lines_is = refl;
      from = omega arith;
      within = omega arith;
      near = λ less. absurd (omega arith);
    }))
    c.search.ensures.met
