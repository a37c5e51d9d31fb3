-- The line of a row that has cells is its first distance, the others each after a blank, and LF.
use Rattle.std.proofs.Common.{◌≡◌, ◌∷◌, rules}
use Rattle.printing.proofs.MeasuredLines.{distances_line-cons}
use Rattle.printing.proofs.PuttingLemmas.{Puts-more}
use Rattle.printing.proofs.distances.put_distances.Goals as goal

pub returns-in-Some-clause-line : goal.returns-in-Some-clause-line
returns-in-Some-clause-line c =
    let whole : c.args.distances.now ≡ c.in-Some.first.now ∷ c.in-Some.others.now = search rules in
    rw (whole, distances_line-cons c.in-Some.first.now c.in-Some.others.now)
    (Puts-more _ _ _ _ _ _ _ _
    (Puts-more _ _ _ _ _ _ _ _ c.put_first-next.ensures.text c.put_others-end.ensures.text)
    c.put_byte.ensures)
