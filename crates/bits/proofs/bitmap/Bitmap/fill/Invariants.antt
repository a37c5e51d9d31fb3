-- The cells before the next one are filled, and the changes so far are counted.
use Rattle.bits.proofs.FillLemmas.{IsFilling}
use Rattle.bits.proofs.bitmap.Bitmap.fill.Given as goal

abbrev pub invariant-columns : goal.invariant-columns
invariant-columns l =
    IsFilling l.fn.self l.self l.rect.x0 l.rect.y0 l.rect.x1 l.y l.x (λ a b. l.black) l.changed

abbrev pub invariant-rows : goal.invariant-rows
invariant-rows l =
    IsFilling l.fn.self l.self l.rect.x0 l.rect.y0 l.rect.x1 l.y l.rect.x0
    (λ a b. l.black) l.changed
