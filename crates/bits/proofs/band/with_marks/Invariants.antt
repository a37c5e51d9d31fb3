-- The words so far have their marks.
use Rattle.std.proofs.Common.{◌≡◌, ℕ, ◌<◌, get_or}
use Rattle.std.specs.Int.{bit_at}
use Rattle.bits.proofs.band.with_marks.Given as goal

abbrev pub invariant-words : goal.invariant-words
invariant-words l = record {
  here : (k i : ℕ) → k < l.index → bit_at (get_or l.row k 0) i ≡ 1 → bit_at l.all k ≡ 1;
  kept : (k : ℕ) → k < 64 → bit_at l.tiles k ≡ 1 → bit_at l.all k ≡ 1;
}
