-- No row has no line, and the line of one more row follows those before it, for which there is
-- room.
use Rattle.std.proofs.Common.{◌≡◌, ◌+◌, ◌-◌, ◌*◌, ◌<◌, ◌≤◌, ℕ, arith, rules}
use Rattle.std.proofs.lemmas.Grind.{common_steps}
use Rattle.printing.proofs.RowLemmas.{rows_text-none, rows_text-more}
use Rattle.printing.proofs.parts.WorkerLines.put.Goals as goal

-- where there is room for the lines of all rows, there is for one more line than are there
more_fits : (done rows width end room : ℕ) → end ≤ done * (25 * width + 1) → done < rows
    → rows * (25 * width + 1) + 3 ≤ room → end + (25 * width + 1 + 3) ≤ room
more_fits done rows width end room taken more many = grind (arith, common_steps)

pub rows-init : goal.rows-init
rows-init g c =
    let printer = c.args.printer.now in
    let first = c.min-first.result in
    let none : first - first ≡ 0 = omega arith in
    let text = rows_text-none printer.nearest printer.table.width first printer.table.nears in
    record {
      text = rw (none, text) (search rules);
      taken = search rules;
      within = search rules;
      room = search rules;
      cells = c.requires.part.row;
    }

pub lengthen-requires : goal.lengthen-requires
lengthen-requires g c =
    rw (c.from-width.ensures, c.width.ensures)
    (more_fits (c.rows.y - c.min-first.result) c.args.printer.now.rows
    c.args.printer.now.table.width c.rows.end _ c.rows.invariant.taken
    (omega (arith, c.rows-test.true, c.min-to.ensures, c.min-first.ensures))
    (omega (arith, c.requires.part.room, c.rows.invariant.room)))

pub rows-preserved : goal.rows-preserved
rows-preserved g c =
    let printer = c.args.printer.now in
    let width = printer.table.width in
    let first = c.min-first.result in
    let done = c.rows.y - first in
    let count : c.rows.y + 1 - first ≡ done + 1 = omega arith in
    let here : first + done ≡ c.rows.y = omega arith in
    let more : (done + 1) * (25 * width + 1) ≡ done * (25 * width + 1) + (25 * width + 1) =
    omega arith in
    record {
      text = rw count (rw (rows_text-more printer.nearest width first done printer.table.nears)
          (rw (here, ← c.rows.invariant.text) (grind (arith, common_steps))));
      taken = rw (count, more) (omega (arith, c.rows.invariant.taken, c.put_line-end.ensures.end));
      within = search rules;
      room = omega (arith, c.rows.invariant.room, c.lengthen.ensures.room);
      cells = search rules;
    }
