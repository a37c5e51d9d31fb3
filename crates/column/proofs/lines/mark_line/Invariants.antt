-- The columns of the words so far are marked, and the others are as they were.
use Rattle.std.proofs.Common.{◌≡◌, ℕ, ◌*◌, ◌<◌, ◌≤◌, get_or, length}
use Rattle.column.specs.Marks.{is_marked, marked}
use Rattle.column.proofs.lines.mark_line.Given as goal

abbrev pub invariant-words : goal.invariant-words
invariant-words l = record {
  marked : (x : ℕ) → x < 64 * l.index → x < length l.fn.line
      → get_or l.line x 0 ≡ marked (is_marked l.row x) l.framed (get_or l.fn.line x 0);
  others : (x : ℕ) → 64 * l.index ≤ x → get_or l.line x 0 ≡ get_or l.fn.line x 0;
}
