-- The digits of the words so far stand there.
use Rattle.std.proofs.Common.{◌≡◌, ℕ, ◌+◌, ◌*◌, ◌/◌, ◌%◌, ◌<◌, length, get_or}
use Rattle.std.specs.Int.{bit_at}
use Rattle.pbm.proofs.digit_row.put_digits.Given as goal

abbrev pub invariant-words : goal.invariant-words
invariant-words l = record {
  len : length l.digits ≡ length l.fn.digits;
  pixels : (x : ℕ) → x < 64 * l.index
      → get_or l.digits x 0 ≡ 48 + bit_at (get_or l.words (x / 64) 0) (x % 64);
}
