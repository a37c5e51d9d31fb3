-- The parts so far are marked, and the other entries are as they were.
use Rattle.std.proofs.Common.{◌≡◌, ℕ, ◌+◌, ◌*◌, ◌<◌, ◌≤◌, ◌==◌, length, get_or}
use Rattle.std.specs.Int.{bit_at}
use Rattle.column.specs.Marks.{marked}
use Rattle.column.proofs.row.mark_word.Given as goal

abbrev pub invariant-parts : goal.invariant-parts
invariant-parts l = record {
  marked : (i : ℕ) → i < 8 * l.part → l.first + i < length l.fn.row
      → get_or l.row (l.first + i) 0 ≡ marked (bit_at l.word i == 1) l.y
      (get_or l.fn.row (l.first + i) 0);
  later : (k : ℕ) → l.first + 8 * l.part ≤ k → get_or l.row k 0 ≡ get_or l.fn.row k 0;
  earlier : (k : ℕ) → k < l.first → get_or l.row k 0 ≡ get_or l.fn.row k 0;
}
