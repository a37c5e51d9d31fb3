-- The columns so far are picked.
use Rattle.std.proofs.Common.{◌≡◌, ℕ, ◌<◌, length, get_or}
use Rattle.column.specs.Marks.{nearer}
use Rattle.column.proofs.lines.pick_line.Given as goal

abbrev pub invariant-columns : goal.invariant-columns
invariant-columns l = record {
  len : length l.entries ≡ length l.fn.entries;
  picked : (x : ℕ) → x < l.x
      → get_or l.entries x 0 ≡ nearer l.y (get_or l.above x 0) (get_or l.below x 0);
}
