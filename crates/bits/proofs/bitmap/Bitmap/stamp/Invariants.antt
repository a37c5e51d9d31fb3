-- The cells before the next one have the stamp's values, and the changes so far are counted.
use Rattle.std.proofs.Common.{◌-◌}
use Rattle.bits.specs.Cells.{has}
use Rattle.bits.proofs.FillLemmas.{IsFilling}
use Rattle.bits.proofs.bitmap.Bitmap.stamp.Given as goal

abbrev pub invariant-columns : goal.invariant-columns
invariant-columns l =
    IsFilling l.fn.self l.self l.x l.y l.right l.row l.column
    (λ a b. has l.stamp (a - l.x) (b - l.y)) l.changed

abbrev pub invariant-rows : goal.invariant-rows
invariant-rows l =
    IsFilling l.fn.self l.self l.x l.y l.right l.row l.x
    (λ a b. has l.stamp (a - l.x) (b - l.y)) l.changed
