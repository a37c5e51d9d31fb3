-- The bytes of the words so far stand there.
use Rattle.std.proofs.Common.{◌≡◌, ℕ, ◌+◌, ◌-◌, ◌*◌, ◌/◌, ◌%◌, ◌<◌, length, get_or}
use Rattle.std.specs.Int.{bit_at}
use Rattle.pbm.proofs.raw_row.put_row.Given as goal

abbrev pub invariant-words : goal.invariant-words
invariant-words l = record {
  len : length l.row ≡ length l.fn.row;
  bits : (k : ℕ) → k < 8 * l.index → (i : ℕ) → i < 8
      → bit_at (get_or l.row k 0) i ≡ bit_at (get_or l.words (k / 8) 0) (8 * (k % 8) + (7 - i));
}
