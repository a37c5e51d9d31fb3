-- The line of a row that has cells is its first entry, the others each after a blank, and LF.
use Rattle.std.proofs.Common.{◌≡◌, ◌∷◌, true, rules}
use Rattle.printing.proofs.Lines.{row_line-cons}
use Rattle.printing.proofs.PuttingLemmas.{Puts-more}
use Rattle.printing.proofs.line.put_row.Goals as goal

pub returns-in-Some-clause-line : goal.returns-in-Some-clause-line
returns-in-Some-clause-line c =
    let whole : c.args.nears.now ≡ c.in-Some.first.now ∷ c.in-Some.others.now = search rules in
    rw (whole, row_line-cons true c.in-Some.first.now c.in-Some.others.now)
    (Puts-more _ _ _ _ _ _ _ _
    (Puts-more _ _ _ _ _ _ _ _ c.put_first-next.ensures.text c.put_others-end.ensures.text)
    c.put_byte.ensures)
