-- The columns so far have entries, and the others are as they were.
use Rattle.std.proofs.Common.{◌≡◌, ℕ, ◌<◌, ◌≤◌, true, length, get_or, replicate}
use Rattle.column.specs.Marks.{first_marked}
use Rattle.column.proofs.cap.mark_all.Given as goal

abbrev pub invariant-columns : goal.invariant-columns
invariant-columns l = record {
  none : l.missing ≡ replicate (length l.fn.missing) 0;
  marked : (x : ℕ) → x < l.x
      → get_or l.entries x 0 ≡ first_marked true l.y (get_or l.fn.entries x 0);
  others : (x : ℕ) → l.x ≤ x → get_or l.entries x 0 ≡ get_or l.fn.entries x 0;
}
