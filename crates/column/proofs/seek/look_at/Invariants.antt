-- The columns of the words so far are searched, and the others are as they were.
use Rattle.std.proofs.Common.{◌≡◌, ℕ, ◌*◌, ◌<◌, ◌≤◌, get_or, length}
use Rattle.column.specs.Marks.{AreMissing, is_marked, first_marked}
use Rattle.column.proofs.seek.look_at.Given as goal

abbrev pub invariant-words : goal.invariant-words
invariant-words l = record {
  missing : AreMissing l.missing l.entries;
  marked : (x : ℕ) → x < 64 * l.index → x < length l.fn.entries
      → get_or l.entries x 0 ≡ first_marked (is_marked l.row x) l.y (get_or l.fn.entries x 0);
  others : (x : ℕ) → 64 * l.index ≤ x → get_or l.entries x 0 ≡ get_or l.fn.entries x 0;
}
