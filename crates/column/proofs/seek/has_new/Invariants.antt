-- Each bit of the words so far that is new has been joined.
use Rattle.std.proofs.Common.{ℕ, ◌<◌, ◌≤◌, get_or}
use Rattle.std.specs.Int.{bit_at}
use lib.Bits.{bit_and}
use Rattle.column.proofs.seek.has_new.Given as goal

abbrev pub invariant-words : goal.invariant-words
invariant-words l = (k : ℕ) → k < l.index → (i : ℕ)
    → bit_at (bit_and (get_or l.words k 0) (get_or l.missing k 0)) i ≤ bit_at l.new i
