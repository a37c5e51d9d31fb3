-- The words before the next one are there.
use Rattle.std.proofs.Common.{◌≡◌, ℕ, ◌+◌, ◌*◌, ◌/◌, ◌%◌, ◌<◌, get_or}
use Rattle.std.specs.Int.{bit_at}
use Rattle.pbm.proofs.raw_raster.read_row.Given as goal

abbrev pub invariant-words : goal.invariant-words
invariant-words l = (k : ℕ) → k < l.index → (i : ℕ) → i < 64
    → bit_at (get_or l.words k 0) i ≡ bit_at (get_or l.reversed (8 * k + i / 8) 0) (i % 8)
