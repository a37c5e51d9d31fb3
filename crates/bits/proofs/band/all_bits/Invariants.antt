-- Each bit of the words so far is in the bits of all.
use Rattle.std.proofs.Common.{◌≡◌, ℕ, ◌<◌, get_or}
use Rattle.std.specs.Int.{bit_at}
use Rattle.bits.proofs.band.all_bits.Given as goal

abbrev pub invariant-words : goal.invariant-words
invariant-words l = (k : ℕ) → k < l.word-index → (i : ℕ) → bit_at (get_or l.words k 0) i ≡ 1
    → bit_at l.all i ≡ 1
