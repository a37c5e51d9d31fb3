-- The digits of the parts so far stand there, and what stood before them is as it was.
use Rattle.std.proofs.Common.{◌≡◌, ℕ, ◌+◌, ◌*◌, ◌<◌, get_or}
use Rattle.std.specs.Int.{bit_at}
use Rattle.pbm.proofs.digit_row.put_word.Given as goal

abbrev pub invariant-parts : goal.invariant-parts
invariant-parts l = record {
  pixels : (i : ℕ) → i < 8 * l.part → get_or l.digits (l.first + i) 0 ≡ 48 + bit_at l.word i;
  others : (x : ℕ) → x < l.first → get_or l.digits x 0 ≡ get_or l.fn.digits x 0;
}
