-- The bits so far are marked, and the other entries are as they were.
use Rattle.std.proofs.Common.{◌≡◌, ℕ, ◌+◌, ◌<◌, ◌≤◌, ◌==◌, get_or}
use Rattle.std.specs.Int.{bit_at}
use Rattle.column.specs.Marks.{marked}
use Rattle.column.proofs.row.mark_last.Given as goal

abbrev pub invariant-bits : goal.invariant-bits
invariant-bits l = record {
  marked : (i : ℕ) → i < l.place
      → get_or l.row (l.first + i) 0 ≡ marked (bit_at l.bits i == 1) l.y
      (get_or l.fn.row (l.first + i) 0);
  later : (k : ℕ) → l.first + l.place ≤ k → get_or l.row k 0 ≡ get_or l.fn.row k 0;
  earlier : (k : ℕ) → k < l.first → get_or l.row k 0 ≡ get_or l.fn.row k 0;
}
